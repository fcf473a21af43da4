use Rattle.xml_export.proofs.Gathers.{placing_start, row_fits, placed, all_placed}
use Rattle.xml_export.proofs.put_rows.Goals as goal

pub loop-i-init : goal.loop-i-init
loop-i-init c = placing_start c.requires

pub put_row-to-requires : goal.put_row-to-requires
put_row-to-requires c = row_fits c.loop-i.invariant c.loop-i-test.true

pub loop-i-preserved : goal.loop-i-preserved
loop-i-preserved c = placed c.loop-i.invariant c.loop-i-test.true c.put_row-to.ensures c.put_row-to.auto.out

pub returns : goal.returns
returns c = all_placed c.loop-i.invariant c.loop-i-test.false
