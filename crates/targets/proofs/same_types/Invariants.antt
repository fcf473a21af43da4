-- `targets::same_types` meets its contract. Assumes nothing.
use Rattle.std.proofs.Common.{◌≡◌, ◌≤◌, ◌+◌, ◌*◌, drop}
use Rattle.targets.specs.Place.{agree}
use Rattle.targets.proofs.same_types.Given as goal

abbrev pub invariant-loop-i : goal.invariant-loop-i
invariant-loop-i l = (agree l.file l.s 1 l.t ≡ agree l.file (drop l.i l.s) l.need (drop l.i l.t)) × (l.need ≤ 1 + 2 * l.i)
