use Rattle.std.proofs.Common.{◌∙◌, arith, length}
use Rattle.std.proofs.lemmas.Result.{err_from_is_err_and}
use Rattle.reading.specs.Reads.{small_by_index}
use Rattle.xml_export.proofs.Answering.{load_refused, loaded, export_is}
use Rattle.xml_export.proofs.export.Goals as goal

pub returns-in_err-loaded : goal.returns-in_err-loaded
returns-in_err-loaded c =
    let a = c.args in
    let p = err_from_is_err_and c.from_residual.result c.from_residual.ensures.1 in
    let r = load_refused a.enums.now a.file.now (length a.words.now) a.out.now c.in_err-loaded.ensures.value in
    rw (p.1, p.2) (record { value = r.0; out_after = r.1; words_after = c.in_err-loaded.ensures.words_after ∙ r.2 })

pub is_list-list-requires : goal.is_list-list-requires
is_list-list-requires c =
    let a = c.args in
    (loaded a.enums.now a.file.now (length a.words.now) (small_by_index a.file.now (λ i h. omega (arith, c.type_inv.file i))) (λ i h. omega (arith, c.type_inv.enums i)) c.in_ok-loaded.ensures.value).ready.lays.short

pub answer-requires : goal.answer-requires
answer-requires c =
    let a = c.args in
    (loaded a.enums.now a.file.now (length a.words.now) (small_by_index a.file.now (λ i h. omega (arith, c.type_inv.file i))) (λ i h. omega (arith, c.type_inv.enums i)) c.in_ok-loaded.ensures.value).ready.lays.short

pub returns : goal.returns
returns c =
    let a = c.args in
    let g = loaded a.enums.now a.file.now (length a.words.now) (small_by_index a.file.now (λ i h. omega (arith, c.type_inv.file i)))
    (λ i h. omega (arith, c.type_inv.enums i)) c.in_ok-loaded.ensures.value in
    let r = export_is a.enums.now a.file.now (length a.words.now) g a.out.now _ _ c.in_ok-loaded.ensures.words_after c.is_list-list.ensures c.answer.ensures in
    record { value = r.0; out_after = r.1; words_after = r.2 }
