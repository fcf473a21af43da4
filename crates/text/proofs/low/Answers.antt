use borrow.Author.Tests.{eq-eqb, ne_eqb}
use Rattle.reading.specs.Utf8.{least}
use Rattle.text.proofs.low.Goals as goal

pub returns-then-b-eq224 : goal.returns-then-b-eq224
unfolding least
returns-then-b-eq224 c = simp (eq-eqb _ _ c.if-b-eq224.true)

pub returns-then-b-eq240 : goal.returns-then-b-eq240
unfolding least
returns-then-b-eq240 c = simp (ne_eqb _ _ c.if-b-eq224.false, eq-eqb _ _ c.if-b-eq240.true)

pub returns : goal.returns
unfolding least
returns c = simp (ne_eqb _ _ c.if-b-eq224.false, ne_eqb _ _ c.if-b-eq240.false)
