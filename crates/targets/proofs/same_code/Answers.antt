use Rattle.std.proofs.Common.{◌∙◌, eq-eqb, ne_eqb, le-leb}
use Rattle.std.proofs.lemmas.Bool.{lt-leb}
use Rattle.names.proofs.Lookup.{alike_is}
use Rattle.targets.specs.Place.{same_name, same_code}
use Rattle.targets.proofs.same_code.Goals as goal

pub returns-then-x-y : goal.returns-then-x-y
unfolding same_code
returns-then-x-y c = rw (ne_eqb _ _ c.if-x-y.true)

pub returns-then-x-lt-ENUM_OF_1 : goal.returns-then-x-lt-ENUM_OF_1
unfolding same_code same_name
returns-then-x-lt-ENUM_OF_1 c = rw (eq-eqb _ _ c.if-x-y.false, lt-leb _ _ c.if-x-lt-ENUM_OF_1.true)

pub returns : goal.returns
unfolding same_code same_name
returns c = rw (eq-eqb _ _ c.if-x-y.false, le-leb _ _ c.if-x-lt-ENUM_OF_1.false, ← c.head_at.ensures, ← c.head_at-2.ensures) (c.eq.ensures ∙ alike_is _ _)
