-- `names::tables::find` meets its contract: the entries that are left are as good as all. Assumes nothing.
use Rattle.std.proofs.Common.{sym, ◌∙◌, ◌+◌}
use Rattle.names.proofs.Laws.{rest}
use Rattle.names.proofs.Lookup.{left_start, find_cut, find_this, find_next, find_none, no_bytes}
use Rattle.names.proofs.tables.find.Goals as goal

pub loop-size-init : goal.loop-size-init
loop-size-init c = left_start _ _

pub returns-then-behind-size : goal.returns-then-behind-size
returns-then-behind-size c = find_cut (rw c.in-Some.ensures.cases.0 at c.loop-size.invariant) c.if-behind-size.true

pub returns-then-same_text : goal.returns-then-same_text
returns-then-same_text c =
    find_this (rw c.in-Some.ensures.cases.0 at c.loop-size.invariant) c.if-behind-size.false (sym c.same_text.ensures ∙ c.if-same_text.true)

pub loop-size-preserved : goal.loop-size-preserved
loop-size-preserved c =
    rw (rest c.in-Some.behind.now (c.in-Some.size.now + 1))
    (find_next (rw c.in-Some.ensures.cases.0 at c.loop-size.invariant) c.if-behind-size.false (sym c.same_text.ensures ∙ c.if-same_text.false))

pub returns : goal.returns
returns c = find_none (rw (no_bytes _ c.in_default.ensures.cases) at c.loop-size.invariant)
