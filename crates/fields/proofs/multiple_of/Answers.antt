use borrow.Author.Tests.{ne_eqb, eq-eqb}
use Rattle.reading.specs.Answer.{check}
use Rattle.reading.specs.Heads.{keeps}
use Rattle.fields.proofs.multiple_of.Goals as goal

pub returns-then-n-unit-ne0 : goal.returns-then-n-unit-ne0
unfolding keeps check
returns-then-n-unit-ne0 c = simp (c.in_ok-n.was, ne_eqb _ _ c.if-n-unit-ne0.true, c.at.ensures)

pub returns : goal.returns
unfolding keeps check
returns c = simp (c.in_ok-n.was, eq-eqb _ _ c.if-n-unit-ne0.false)
