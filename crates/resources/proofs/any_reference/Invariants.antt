-- `resources::any_reference` meets its contract: before each turn the rows from `i` on say whether there is one. Assumes nothing.
use mathlib.Core.Path.{◌≡◌}
use Prim.Native.Nat.{◌-◌}
use Rattle.resources.specs.Total.{any_reference}
use Rattle.resources.proofs.any_reference.Given as goal

abbrev pub invariant-loop-i : goal.invariant-loop-i
invariant-loop-i l = any_reference l.table.grid l.table.words.now (l.used - l.i) l.i ≡ any_reference l.table.grid l.table.words.now l.used 0
