use mir.Val.{SFits}
use mir.Syntax.{w64}
use mir.Facts.{to_z-of_z}
use Rattle.std.specs.Prelude.{Ok}
use Rattle.std.proofs.lemmas.Result.{err_from_is_err_and}
use Rattle.ticks.specs.Split.{split_of}
use mathlib.Core.Path.{ap, ◌∙◌}
use Rattle.lookups.proofs.Times.{time-refused, no_time, a_time}
use borrow.Author.Rules.{rules}
use Rattle.lookups.proofs.time.Goals as goal

pub returns-in_err-count : goal.returns-in_err-count
returns-in_err-count c =
    let a = c.args in
    let p = err_from_is_err_and c.from_residual.result c.from_residual.ensures.1 in
    rw (p.1, p.2) (time-refused a.table.grid a.file.now a.table.words.now a.row.0 c.in_err-count.ensures)

pub returns-then-word-ne-TIME_SPAN : goal.returns-then-word-ne-TIME_SPAN
returns-then-word-ne-TIME_SPAN c =
    let a = c.args in
    rw c.at.ensures (no_time a.table.grid a.file.now a.table.words.now a.row.0 c.in_ok-count.ensures c.word.ensures c.if-word-ne-TIME_SPAN.true)

pub returns : goal.returns
returns c =
    let a = c.args in
    let f : SFits w64 c.in_ok-count.count = search rules in
    ap Ok (c.split_ticks.ensures ∙ ap split_of (to_z-of_z {w = w64} f)) ∙ a_time a.table.grid a.file.now a.table.words.now a.row.0 c.in_ok-count.ensures c.word.ensures c.if-word-ne-TIME_SPAN.false
