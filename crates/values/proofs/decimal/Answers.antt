-- `values::decimal` meets its contract: the same tests in the same order. Assumes nothing.
use lib.ListN.{length, get_or}
use borrow.Author.Tests.{eq-eqb, ne_eqb, le-leb, lt-leb}
use Rattle.reading.specs.Fixed.{is_decimal}
use Rattle.values.proofs.decimal.Goals as goal

pub returns-then-own-ne16 : goal.returns-then-own-ne16
unfolding is_decimal
returns-then-own-ne16 c = rw (ne_eqb (length c.args.own.now) 16 c.if-own-ne16.true)

pub returns-then-own-ne0 : goal.returns-then-own-ne0
unfolding is_decimal
returns-then-own-ne0 c =
    let l = c.args.own.now in
    rw (eq-eqb (length l) 16 c.if-own-ne16.false, ne_eqb (get_or l 12 0) 0 c.if-own-ne0.true)

pub returns-then-own-ne0-2 : goal.returns-then-own-ne0-2
unfolding is_decimal
returns-then-own-ne0-2 c =
    let l = c.args.own.now in
    rw (eq-eqb (length l) 16 c.if-own-ne16.false, eq-eqb (get_or l 12 0) 0 c.if-own-ne0.false, ne_eqb (get_or l 13 0) 0 c.if-own-ne0-2.true)

pub returns-then-own-gt28 : goal.returns-then-own-gt28
unfolding is_decimal
returns-then-own-gt28 c =
    let l = c.args.own.now in
    rw (
      eq-eqb (length l) 16 c.if-own-ne16.false,
      eq-eqb (get_or l 12 0) 0 c.if-own-ne0.false,
      eq-eqb (get_or l 13 0) 0 c.if-own-ne0-2.false,
      lt-leb (get_or l 14 0) 28 c.if-own-gt28.true,
    )

pub returns : goal.returns
unfolding is_decimal
returns c =
    let l = c.args.own.now in
    rw (
      eq-eqb (length l) 16 c.if-own-ne16.false,
      eq-eqb (get_or l 12 0) 0 c.if-own-ne0.false,
      eq-eqb (get_or l 13 0) 0 c.if-own-ne0-2.false,
      le-leb (get_or l 14 0) 28 c.if-own-gt28.false,
    )
