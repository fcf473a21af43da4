use mathlib.Core.Path.{sym, ◌∙◌}
use borrow.Author.Tests.{le-leb, lt-leb}
use Rattle.text.proofs.Laws.{range_past, range_at}
use Rattle.text.proofs.in_range.Goals as goal

pub returns-then-s-i : goal.returns-then-s-i
returns-then-s-i c =
    let a = c.args in
    sym (range_past a.s.now a.i a.low a.high c.if-s-i.true)

pub returns-then-x-low : goal.returns-then-x-low
returns-then-x-low c =
    let a = c.args in
    sym (range_at a.s.now a.i a.low a.high c.if-s-i.false ∙ rw (lt-leb _ _ c.if-x-low.true))

pub returns : goal.returns
returns c =
    let a = c.args in
    sym (range_at a.s.now a.i a.low a.high c.if-s-i.false ∙ rw (le-leb _ _ c.if-x-low.false))
