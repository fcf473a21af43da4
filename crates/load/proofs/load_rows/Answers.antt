use mathlib.Core.Path.{refl}
use Rattle.names.specs.Entries.{enums_of}
use native.Mathlib.Omega.{arith}
use Rattle.std.proofs.lemmas.Result.{err_from_is_err_and}
use Rattle.reading.specs.Reads.{small_by_index}
use Rattle.load.specs.Laws.{header_read, header_refused, file_behind}
use Rattle.load.proofs.load_rows.Goals as goal

pub lists-requires : goal.lists-requires
lists-requires c =
    let file = c.args.file.now in
    let small = small_by_index file (λ i h. omega (arith, c.type_inv.file i)) in
    let h = header_read file small (c.in_ok-header.ensures) in
    record { short = h.short; inside = h.inside; long = c.requires; ten = h.ten }

pub returns-in_err-header : goal.returns-in_err-header
returns-in_err-header c =
    let a = c.args in
    let file = a.file.now in
    let p = err_from_is_err_and c.from_residual.result c.from_residual.ensures.1 in
    rw (p.1, p.2, header_refused (enums_of a.enums.now) file a.grid.room c.in_err-header.ensures) refl

pub returns : goal.returns
returns c =
    let a = c.args in
    let file = a.file.now in
    let small = small_by_index file (λ i h. omega (arith, c.type_inv.file i)) in
    let h = header_read file small (c.in_ok-header.ensures) in
    rw (file_behind (enums_of a.enums.now) file a.grid.room h) (c.lists.ensures h.h.0 h.h.1)
