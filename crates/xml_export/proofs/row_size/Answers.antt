use Rattle.std.proofs.Common.{arith}
use Rattle.reading.specs.Reads.{small_by_index}
use Rattle.lookups.specs.Spans.{text-inside}
use Rattle.xml_export.proofs.Gathers.{no_size, found_size}
use Rattle.xml_export.proofs.row_size.Goals as goal

pub text_size-size-requires : goal.text_size-size-requires
text_size-size-requires c =
    let small = small_by_index c.args.file.now (λ i h. omega (arith, c.type_inv.file i)) in
    let h = text-inside _ c.args.file.now _ c.args.row small c.in-Ok.ensures in
    (c.requires, omega (arith, h))

pub returns-in-Err : goal.returns-in-Err
returns-in-Err c = rw c.at.ensures (no_size c.args.file.now _ _ (rw (c.by_rows.ensures.0, c.by_rows.ensures.1) at c.in-Err.ensures) c.args.row)

pub returns-in-Ok : goal.returns-in-Ok
returns-in-Ok c =
    rw (c.ok_or.ensures.value, c.text_size-size.ensures, c.at-in-Ok.ensures)
    (found_size c.args.file.now _ _ (rw (c.by_rows.ensures.0, c.by_rows.ensures.1) at c.in-Ok.ensures) c.args.row)
