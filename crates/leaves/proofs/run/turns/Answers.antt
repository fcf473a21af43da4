use mathlib.Core.Path.{sym}
use Rattle.leaves.specs.Run.{length_pairs, length-levels}
use Rattle.leaves.proofs.run.turns.Goals as goal

pub returns-in-Turns : goal.returns-in-Turns
returns-in-Turns c = rw c.in-Turns.is (sym (length_pairs _ _ _))

pub returns-in-Levels : goal.returns-in-Levels
returns-in-Levels c = rw c.in-Levels.is (sym (length-levels _ _ _ _))
