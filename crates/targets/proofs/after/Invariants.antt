-- `targets::after` meets its contract. Assumes nothing.
use Rattle.std.proofs.Common.{◌≡◌, ◌≤◌, ◌+◌, ◌*◌, drop, length}
use Prim.Native.Nat.{max}
use Rattle.targets.specs.Place.{extent, place_after}
use Rattle.targets.proofs.after.Given as goal

abbrev pub invariant-loop-i : goal.invariant-loop-i
invariant-loop-i l = (place_after l.codes l.a ≡ l.i + extent (drop l.i l.codes) l.need) × (l.need ≤ 1 + 2 * l.i) × (l.i ≤ max l.a (length l.codes))
