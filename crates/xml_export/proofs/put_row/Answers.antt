use Rattle.std.proofs.Common.{arith}
use Rattle.reading.specs.Reads.{small_by_index}
use Rattle.lookups.specs.Spans.{text-inside}
use Rattle.xml_export.proofs.Gathers.{no_put, found_fits, found_put}
use Rattle.xml_export.proofs.put_row.Goals as goal

pub put_item-requires : goal.put_item-requires
put_item-requires c =
    let small = small_by_index c.args.file.now (λ i h. omega (arith, c.type_inv.file i)) in
    let h = text-inside _ c.args.file.now _ c.args.row small c.in-Ok.ensures in
    (omega (arith, h), found_fits c.args.file.now _ _ (rw (c.by_rows.ensures.0, c.by_rows.ensures.1) at c.in-Ok.ensures) _ _ c.requires)

pub returns-in-Err : goal.returns-in-Err
returns-in-Err c = no_put c.args.file.now _ _ (rw (c.by_rows.ensures.0, c.by_rows.ensures.1) at c.in-Err.ensures) _ _ _ _

pub returns-in-Ok : goal.returns-in-Ok
returns-in-Ok c = found_put c.args.file.now _ _ (rw (c.by_rows.ensures.0, c.by_rows.ensures.1) at c.in-Ok.ensures) _ _ _ _ c.put_item.ensures
