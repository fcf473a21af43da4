use mathlib.Core.Path.{◌∙◌}
use native.Mathlib.Omega.{arith}
use Rattle.std.proofs.lemmas.Result.{err_from_is_err_and}
use Rattle.lookups.specs.Parts.{refuses}
use Rattle.lookups.specs.Texts.{text_in, text_of}
use Rattle.lookups.specs.Spans.{inside}
use Rattle.lookups.proofs.Laws.{lookup-refused, lookup_found}
use Rattle.lookups.proofs.text.Goals as goal

pub overflow_add-end : goal.overflow_add-end
overflow_add-end c =
    let a = c.args in
    let h = inside a.table.grid a.file.now a.table.words.now a.row.0 c.in_ok-first.ensures in
    omega (arith, h)

pub slice_bounds-text_in-end : goal.slice_bounds-text_in-end
slice_bounds-text_in-end c =
    let a = c.args in
    let h = inside a.table.grid a.file.now a.table.words.now a.row.0 c.in_ok-first.ensures in
    omega (arith, h)

pub returns-in_err-first : goal.returns-in_err-first
unfolding text_of
returns-in_err-first c =
    let a = c.args in
    let p = err_from_is_err_and c.from_residual.result c.from_residual.ensures.1 in
    rw (p.1, p.2) (lookup-refused a.table.grid a.file.now a.table.words.now a.row.0 refuses (λ bytes first kind. text_in bytes first kind a.row.0) c.in_err-first.ensures)

pub returns : goal.returns
unfolding text_of
returns c =
    let a = c.args in
    c.text_in.ensures ∙ lookup_found a.table.grid a.file.now a.table.words.now a.row.0 refuses (λ bytes first kind. text_in bytes first kind a.row.0) c.in_ok-first.ensures c.word-kind.ensures
