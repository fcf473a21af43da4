use Rattle.std.proofs.Common.{sym, ◌∙◌, add-one}
use Rattle.page_rules.specs.Pages.{page-fine, page_found, no_more_pages}
use Rattle.page_rules.proofs.nextless.Goals as goal

pub returns-in-Some : goal.returns-in-Some
returns-in-Some c =
    let a = c.args in
    λ rows d. page_found a.rows.table.grid a.rows.table.words.now a.rows.used c.loop-row.row c.loop-row-test.true (rw c.in-Some.is at c.nextless_at.ensures) rows d ∙ sym (c.loop-row.invariant rows d)

pub loop-row-preserved : goal.loop-row-preserved
loop-row-preserved c =
    let a = c.args in
    λ rows d.
    rw add-one (c.loop-row.invariant rows d ∙ page-fine a.rows.table.grid a.rows.table.words.now a.rows.used c.loop-row.row c.loop-row-test.true (rw c.in_default.is at c.nextless_at.ensures) rows d)

pub returns : goal.returns
returns c =
    let a = c.args in
    λ rows d. sym (c.loop-row.invariant rows d ∙ no_more_pages a.rows.table.grid a.rows.table.words.now a.rows.used c.loop-row.row c.loop-row-test.false rows d)
