-- `values::keeps_rule` meets its contract. Assumes nothing.
use mathlib.Core.Path.{sym}
use Rattle.reading.specs.Fixed.{rule}
use Rattle.values.proofs.Laws.{no_rule}
use Rattle.values.proofs.keeps_rule.Goals as goal

pub returns-in-11 : goal.returns-in-11
unfolding rule
returns-in-11 c = rw c.in-11.is c.boolean.ensures

pub returns-in-21 : goal.returns-in-21
unfolding rule
returns-in-21 c = rw c.in-21.is c.date_time.ensures

pub returns-in-22 : goal.returns-in-22
unfolding rule
returns-in-22 c = rw c.in-22.is c.decimal.ensures

pub returns-in_default : goal.returns-in_default
returns-in_default c = sym (no_rule _ _ c.in_default.in_default-own.rest.0.0.1 c.in_default.in_default-own.rest.0.1 c.in_default.in_default-own.rest.1)
