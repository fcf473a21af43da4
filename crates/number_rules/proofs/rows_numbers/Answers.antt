use Rattle.std.proofs.Common.{sym, ◌∙◌}
use Rattle.number_rules.specs.Numbers.{row_fine, row-wrong, no_more-rows}
use Rattle.number_rules.proofs.rows_numbers.Goals as goal

pub returns-in-Some : goal.returns-in-Some
returns-in-Some c =
    let a = c.args in
    λ rows d.
    row-wrong a.file.now a.rows.table.grid a.rows.table.words.now a.rows.used c.loop-row.row c.loop-row-test.true (rw c.in-Some.is at c.row_numbers.ensures) rows d ∙ sym (c.loop-row.invariant rows d)

pub loop-row-preserved : goal.loop-row-preserved
loop-row-preserved c =
    let a = c.args in
    λ rows d.
    c.loop-row.invariant rows d ∙ row_fine a.file.now a.rows.table.grid a.rows.table.words.now a.rows.used c.loop-row.row c.loop-row-test.true (rw c.in_default.is at c.row_numbers.ensures) rows d

pub returns : goal.returns
returns c =
    let a = c.args in
    λ rows d. sym (c.loop-row.invariant rows d ∙ no_more-rows a.file.now a.rows.table.grid a.rows.table.words.now a.rows.used c.loop-row.row c.loop-row-test.false rows d)
