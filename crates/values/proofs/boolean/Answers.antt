-- `values::boolean` meets its contract. Assumes nothing.
use lib.ListN.{length}
use borrow.Author.Tests.{eq-eqb, ne_eqb}
use Rattle.reading.specs.Fixed.{is_boolean}
use Rattle.values.proofs.boolean.Goals as goal

pub returns-then-own-ne1 : goal.returns-then-own-ne1
unfolding is_boolean
returns-then-own-ne1 c = rw (ne_eqb (length c.args.own.now) 1 c.if-own-ne1.true)

pub returns : goal.returns
unfolding is_boolean
returns c = rw (eq-eqb (length c.args.own.now) 1 c.if-own-ne1.false)
