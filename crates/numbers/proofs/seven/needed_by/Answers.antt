use borrow.Author.Tests.{eq-eqb, ne_eqb}
use Rattle.numbers.specs.Steps.{needed_by}
use Rattle.numbers.proofs.seven.needed_by.Goals as goal

pub returns-then-byte-eq0 : goal.returns-then-byte-eq0
unfolding needed_by
returns-then-byte-eq0 c = rw (eq-eqb _ 0 c.if-byte-eq0.true)

pub returns : goal.returns
unfolding needed_by
returns c = rw (ne_eqb _ 0 c.if-byte-eq0.false)
