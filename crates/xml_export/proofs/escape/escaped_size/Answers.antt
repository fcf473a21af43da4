use borrow.Author.Tests.{eq-eqb, ne_eqb}
use Rattle.layout.specs.Text.{ascii}
use Rattle.xml_layout.specs.Xml.{escaped}
use Rattle.xml_export.proofs.escape.escaped_size.Goals as goal

pub returns-then-b-eq38 : goal.returns-then-b-eq38
unfolding escaped ascii
returns-then-b-eq38 c = rw (eq-eqb _ _ c.if-b-eq38.true)

pub returns-then-b-eq60 : goal.returns-then-b-eq60
unfolding escaped ascii
returns-then-b-eq60 c = rw (ne_eqb _ _ c.if-b-eq38.false, eq-eqb _ _ c.if-b-eq60.true)

pub returns-then-b-eq62 : goal.returns-then-b-eq62
unfolding escaped ascii
returns-then-b-eq62 c = rw (ne_eqb _ _ c.if-b-eq38.false, ne_eqb _ _ c.if-b-eq60.false, eq-eqb _ _ c.if-b-eq62.true)

pub returns-then-b-eq34 : goal.returns-then-b-eq34
unfolding escaped ascii
returns-then-b-eq34 c = rw (ne_eqb _ _ c.if-b-eq38.false, ne_eqb _ _ c.if-b-eq60.false, ne_eqb _ _ c.if-b-eq62.false, eq-eqb _ _ c.if-b-eq34.true)

pub returns : goal.returns
unfolding escaped ascii
returns c = rw (ne_eqb _ _ c.if-b-eq38.false, ne_eqb _ _ c.if-b-eq60.false, ne_eqb _ _ c.if-b-eq62.false, ne_eqb _ _ c.if-b-eq34.false)
