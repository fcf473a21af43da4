use mathlib.Core.Path.{sym, ◌∙◌}
use Rattle.names.specs.Kind.{listed}
use Rattle.enums.proofs.Laws.{no_size, no_name, no_head, some-head}
use Rattle.enums.proofs.is_enum_type.Goals as goal

pub returns-then-not-is_size : goal.returns-then-not-is_size
returns-then-not-is_size c = no_size _ _ (sym c.is_size.ensures ∙ c.if-not-is_size.true)

pub returns-then-name-eq0 : goal.returns-then-name-eq0
returns-then-name-eq0 c = no_name _ _ (sym c.is_size.ensures ∙ c.if-not-is_size.false) c.if-name-eq0.true

pub returns-then-run-name : goal.returns-then-run-name
returns-then-run-name c = no_head _ _ (sym c.is_size.ensures ∙ c.if-not-is_size.false) (λ q. c.if-run-name.true (c.run.ensures ∙ q))

pub returns : goal.returns
unfolding listed
returns c =
    rw c.kind_of.ensures
    (some-head _ _ (sym c.is_size.ensures ∙ c.if-not-is_size.false) c.if-name-eq0.false (sym c.run.ensures ∙ c.if-run-name.false))
