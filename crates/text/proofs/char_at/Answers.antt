use mathlib.Core.Path.{sym}
use Rattle.text.proofs.Laws.{one_read, low_refused, high_refused}
use lib.ListN.{drop_of_length-le}
use Rattle.reading.specs.Utf8.{char_at, char_of}
use Rattle.text.proofs.char_at.Goals as goal

pub returns-then-s-at : goal.returns-then-s-at
unfolding char_at char_of
returns-then-s-at c =
    let a = c.args in
    rw (drop_of_length-le a.s.now c.if-s-at.true, c.at.ensures)

pub returns-then-b-lt128 : goal.returns-then-b-lt128
returns-then-b-lt128 c =
    let a = c.args in
    cc (one_read a.s.now a.at c.if-s-at.false c.if-b-lt128.true)

pub returns-then-b-lt194 : goal.returns-then-b-lt194
returns-then-b-lt194 c =
    let a = c.args in
    rw c.at-then-b-lt194.ensures (sym (low_refused a.s.now a.at c.if-s-at.false c.if-b-lt128.false c.if-b-lt194.true))

pub returns : goal.returns
returns c =
    let a = c.args in
    rw c.at-2.ensures (sym (high_refused a.s.now a.at c.if-s-at.false c.if-b-lt240.false))
