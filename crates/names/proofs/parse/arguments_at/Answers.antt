use mathlib.Core.Path.{sym, ◌∙◌}
use Rattle.layout.specs.Text.{ascii}
use Rattle.names.specs.Parse.{opening}
use Rattle.names.proofs.parse.arguments_at.Goals as goal

pub returns-then-stands : goal.returns-then-stands
unfolding opening ascii
returns-then-stands c = rw (sym c.stands.ensures ∙ c.if-stands.true)

pub returns-then-stands-2 : goal.returns-then-stands-2
unfolding opening ascii
returns-then-stands-2 c = rw (sym c.stands.ensures ∙ c.if-stands.false, sym c.stands-2.ensures ∙ c.if-stands-2.true)

pub returns-then-stands-3 : goal.returns-then-stands-3
unfolding opening ascii
returns-then-stands-3 c = rw (c.unopened.ensures, sym c.stands.ensures ∙ c.if-stands.false, sym c.stands-2.ensures ∙ c.if-stands-2.false, sym c.stands-3.ensures ∙ c.if-stands-3.true)

pub returns : goal.returns
unfolding opening ascii
returns c = rw (sym c.stands.ensures ∙ c.if-stands.false, sym c.stands-2.ensures ∙ c.if-stands-2.false, sym c.stands-3.ensures ∙ c.if-stands-3.false)
