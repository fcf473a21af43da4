use Rattle.std.proofs.Common.{sym, ◌∙◌}
use Rattle.pack_counts.specs.Count.{no_row_yet, one_more, no_more}
use Rattle.pack_counts.proofs.count_rows.Goals as goal

pub loop-row-init : goal.loop-row-init
loop-row-init c = let a = c.args in no_row_yet a.file.now a.table.grid a.table.words.now a.used a.figures.now

pub loop-row-preserved : goal.loop-row-preserved
loop-row-preserved c =
    let a = c.args in
    rw c.count_row.ensures (c.loop-row.invariant ∙ one_more a.file.now a.table.grid a.table.words.now a.used c.loop-row.row c.loop-row-test.true c.loop-row.figures)

pub returns : goal.returns
returns c =
    let a = c.args in
    sym (c.loop-row.invariant ∙ no_more a.file.now a.table.grid a.table.words.now a.used c.loop-row.row c.loop-row-test.false c.loop-row.figures)
