use borrow.Author.Tests.{lt-leb, le-leb}
use Rattle.reading.specs.Answer.{check}
use Rattle.reading.specs.Heads.{keeps}
use Rattle.fields.proofs.at_most.Goals as goal

pub returns-then-most-n : goal.returns-then-most-n
unfolding keeps check
returns-then-most-n c = simp (c.in_ok-n.was, lt-leb _ _ c.if-most-n.true, c.at.ensures)

pub returns : goal.returns
unfolding keeps check
returns c = simp (c.in_ok-n.was, le-leb _ _ c.if-most-n.false)
