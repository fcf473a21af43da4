-- `names::texts::same_text` meets its contract: what is left to compare is as good as the whole. Assumes nothing.
use Rattle.std.proofs.Common.{length}
use Rattle.names.proofs.Ends.{Left}
use Rattle.names.proofs.texts.same_text.Given as goal

abbrev pub invariant-loop-x_front : goal.invariant-loop-x_front
invariant-loop-x_front l = Left l.a l.b l.x l.y

abbrev pub decreases-loop-x_front : goal.decreases-loop-x_front
decreases-loop-x_front l = length l.x
