use borrow.Author.Tests.{eq-eqb, ne_eqb}
use Rattle.reading.specs.Resource.{suit}
use Rattle.resources.proofs.suits_kind.Goals as goal

pub returns-then-kind-eq0 : goal.returns-then-kind-eq0
unfolding suit
returns-then-kind-eq0 c = rw (eq-eqb _ 0 c.if-kind-eq0.true)

pub returns-else-kind-eq0 : goal.returns-else-kind-eq0
unfolding suit
returns-else-kind-eq0 c = rw (ne_eqb _ 0 c.if-kind-eq0.false)
