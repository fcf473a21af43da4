-- `resources::judge_all` meets its contract: before each turn the rows from `i` on give the answer and the words. Assumes nothing.
use mathlib.Core.Path.{◌≡◌}
use lib.ListN.{length}
use Rattle.resources.specs.Total.{settle_from, settle_of}
use Rattle.resources.proofs.judge_all.Given as goal

abbrev pub invariant-loop-i : goal.invariant-loop-i
invariant-loop-i l = (length l.words ≡ length l.initial.words) × (settle_from l.grid l.words l.used l.i ≡ settle_of l.grid l.initial.words l.used)
