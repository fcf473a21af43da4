use Rattle.std.proofs.Common.{sym, ◌∙◌, arith}
use Rattle.std.proofs.lemmas.Result.{err_from_is_err_and}
use Rattle.reading.specs.Reads.{small_by_index}
use Rattle.pack_records.proofs.Parts.{path_refused, path_empty, path_long, path_missing, path_other, path_there, path_ends}
use Rattle.pack_records.proofs.path_at.Goals.{then-length-eq0-via-then-length-eq0, then-length-eq0-via-else-length-eq0+then-length-gt260}
use Rattle.pack_records.proofs.path_at.Goals as goal

pub returns-in_err-length : goal.returns-in_err-length
returns-in_err-length c =
    let p = err_from_is_err_and c.from_residual.result c.from_residual.ensures.1 in
    rw (p.1, p.2) (path_refused _ _ (sym c.in_err-length.ensures))

pub returns-then-length-eq0 : goal.returns-then-length-eq0
returns-then-length-eq0 c =
    rw c.at.ensures elim c.then-length-eq0.branch [
      | then-length-eq0-via-then-length-eq0 w ↦ path_empty _ _ (sym c.in_ok-length.ensures) w.if-length-eq0.true
      | then-length-eq0-via-else-length-eq0+then-length-gt260 w ↦ path_long _ _ (sym c.in_ok-length.ensures) w.if-length-gt260.true
    ]

pub returns-then-not-has_bytes : goal.returns-then-not-has_bytes
returns-then-not-has_bytes c =
    rw c.at-then-not-has_bytes.ensures (path_missing _ _ (sym c.in_ok-length.ensures) c.if-length-eq0.false c.if-length-gt260.false (sym c.has_bytes.ensures ∙ c.if-not-has_bytes.true))

pub overflow_add-end : goal.overflow_add-end
overflow_add-end c =
    let a = c.args in
    let small = small_by_index a.pack.now (λ i h. omega (arith, c.type_inv.pack i)) in
    omega (arith, path_ends a.pack.now a.at (sym c.in_ok-length.ensures) small (sym c.has_bytes.ensures ∙ c.if-not-has_bytes.false))

pub slice_bounds-is_short_utf8-end : goal.slice_bounds-is_short_utf8-end
slice_bounds-is_short_utf8-end c =
    let a = c.args in
    let small = small_by_index a.pack.now (λ i h. omega (arith, c.type_inv.pack i)) in
    path_ends a.pack.now a.at (sym c.in_ok-length.ensures) small (sym c.has_bytes.ensures ∙ c.if-not-has_bytes.false)

pub returns-then-not-is_short_utf8 : goal.returns-then-not-is_short_utf8
returns-then-not-is_short_utf8 c =
    rw c.at-then-not-is_short_utf8.ensures (path_other _ _ (sym c.in_ok-length.ensures) c.if-length-eq0.false c.if-length-gt260.false (sym c.has_bytes.ensures ∙ c.if-not-has_bytes.false)
    (sym c.is_short_utf8.ensures ∙ c.if-not-is_short_utf8.true))

pub returns : goal.returns
returns c =
    let a = c.args in
    let small = small_by_index a.pack.now (λ i h. omega (arith, c.type_inv.pack i)) in
    path_there _ _ (sym c.in_ok-length.ensures) c.if-length-eq0.false c.if-length-gt260.false (sym c.has_bytes.ensures ∙ c.if-not-has_bytes.false) small
    (sym c.is_short_utf8.ensures ∙ c.if-not-is_short_utf8.false)
