-- `resources::judge_rows` meets its contract: before each turn the rows from `i` on give the answer and the words. Assumes nothing.
use mathlib.Core.Path.{◌≡◌}
use Prim.Native.Nat.{◌-◌}
use lib.ListN.{length, drop}
use Rattle.resources.specs.Total.{rows_settled}
use Rattle.resources.proofs.judge_rows.Given as goal

abbrev pub invariant-loop-i : goal.invariant-loop-i
invariant-loop-i l = (length l.words ≡ length l.initial.words) × (rows_settled l.grid (drop 1 l.kinds) (l.used - l.i) l.i l.words ≡ rows_settled l.grid (drop 1 l.kinds) (l.used - l.from) l.from l.initial.words)
