use Rattle.page_rules.specs.Pages.{page_first, other_first}
use Rattle.page_rules.proofs.no_page.Goals as goal

pub returns-then-kind-eq-PAGE : goal.returns-then-kind-eq-PAGE
returns-then-kind-eq-PAGE c =
    let a = c.args in
    page_first a.rows.table.grid a.rows.table.words.now a.rows.used c.word-kind.ensures c.if-kind-eq-PAGE.true

pub returns : goal.returns
returns c =
    let a = c.args in
    other_first a.rows.table.grid a.rows.table.words.now a.rows.used c.word-kind.ensures c.if-kind-eq-PAGE.false c.word-first.ensures
