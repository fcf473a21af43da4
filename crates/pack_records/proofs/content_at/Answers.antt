use Rattle.std.proofs.Common.{sym, ◌∙◌, arith}
use Rattle.std.proofs.lemmas.Result.{err_from_is_err_and}
use Rattle.reading.specs.Reads.{small_by_index}
use Rattle.pack_records.proofs.Parts.{content-refused, content-missing, content_there}
use Rattle.pack_records.proofs.content_at.Goals as goal

pub returns-in_err-size : goal.returns-in_err-size
returns-in_err-size c =
    let p = err_from_is_err_and c.from_residual.result c.from_residual.ensures.1 in
    rw (p.1, p.2) (content-refused _ _ _ (sym c.in_err-size.ensures))

pub returns-then-not-has_bytes : goal.returns-then-not-has_bytes
returns-then-not-has_bytes c = rw c.at.ensures (content-missing _ _ _ (sym c.in_ok-size.ensures) (sym c.has_bytes.ensures ∙ c.if-not-has_bytes.true))

pub returns : goal.returns
returns c =
    let small = small_by_index c.args.pack.now (λ i h. omega (arith, c.type_inv.pack i)) in
    content_there _ _ _ (sym c.in_ok-size.ensures) small (sym c.has_bytes.ensures ∙ c.if-not-has_bytes.false)
