-- `resources::past_eights` meets its contract: before each turn the rows from eight times `k` on say whether there is a reference. Assumes nothing.
use mathlib.Core.Path.{◌≡◌}
use Prim.Native.Nat.{◌*◌, ◌-◌}
use Rattle.resources.specs.Total.{any_reference}
use Rattle.resources.proofs.past_eights.Given as goal

abbrev pub invariant-loop-k : goal.invariant-loop-k
invariant-loop-k l = any_reference l.table.grid l.table.words.now (l.used - 8 * l.k) (8 * l.k) ≡ any_reference l.table.grid l.table.words.now l.used 0
