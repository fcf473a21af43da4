use Rattle.std.specs.Prelude.{length}
use Rattle.std.proofs.Common.{refl, sym, arith}
use Rattle.std.proofs.lemmas.Result.{err_from_is_err_and}
use Rattle.pack_layout.specs.Table.{files_room}
use Rattle.pack_layout.specs.Pack.{mark_of}
use Rattle.reading.specs.Reads.{small_by_index}
use Rattle.packs.specs.Walk.{count-refused, count_many, count_few}
use Rattle.packs.proofs.read_counted.Goals as goal

pub returns-in_err-count : goal.returns-in_err-count
returns-in_err-count c =
    let a = c.args in
    let p = err_from_is_err_and c.from_residual.result c.from_residual.ensures.1 in
    rw (p.1, p.2, count-refused (mark_of a.marked) a.pack.now (files_room (length a.table.now)) (sym c.in_err-count.ensures)) refl

pub returns-then-count-gt4096 : goal.returns-then-count-gt4096
returns-then-count-gt4096 c =
    let a = c.args in
    rw (c.at.ensures, count_many (mark_of a.marked) a.pack.now (files_room (length a.table.now)) (sym c.in_ok-count.ensures) c.if-count-gt4096.true) refl

pub returns : goal.returns
returns c =
    let a = c.args in
    let small = small_by_index a.pack.now (λ i h. omega (arith, c.type_inv.pack i)) in
    rw (count_few (mark_of a.marked) a.pack.now (files_room (length a.table.now)) small (sym c.in_ok-count.ensures) c.if-count-gt4096.false) c.read_files.ensures
