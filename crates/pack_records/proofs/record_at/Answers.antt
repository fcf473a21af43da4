use Rattle.std.proofs.Common.{◌∙◌, arith}
use Rattle.std.proofs.lemmas.Result.{err_from_is_err_and}
use Rattle.pack_layout.specs.Pack.{mark_of}
use Rattle.reading.specs.Reads.{small_by_index}
use Rattle.pack_records.proofs.Parts.{pathed_is, record_unmarked, record_unnamed, record_there}
use Rattle.pack_records.proofs.record_at.Goals as goal

pub returns-in_err-start : goal.returns-in_err-start
returns-in_err-start c =
    let p = err_from_is_err_and c.from_residual.result c.from_residual.ensures.1 in
    rw (p.1, p.2) (record_unmarked (mark_of c.args.marked) _ _ c.in_err-start.ensures)

pub returns-in_err-path : goal.returns-in_err-path
returns-in_err-path c =
    let p = err_from_is_err_and c.from_residual-in_err-path.result c.from_residual-in_err-path.ensures.1 in
    rw (p.1, p.2) (record_unnamed (mark_of c.args.marked) _ _ c.in_ok-start.ensures c.in_err-path.ensures)

pub content_at-requires : goal.content_at-requires
content_at-requires c =
    let small = small_by_index c.args.pack.now (λ i h. omega (arith, c.type_inv.pack i)) in
    (pathed_is _ _ small c.in_ok-path.ensures).inside

pub returns : goal.returns
returns c =
    let a = c.args in
    let small = small_by_index a.pack.now (λ i h. omega (arith, c.type_inv.pack i)) in
    c.content_at.ensures ∙ record_there (mark_of a.marked) _ _ c.in_ok-start.ensures small (pathed_is _ _ small c.in_ok-path.ensures)
