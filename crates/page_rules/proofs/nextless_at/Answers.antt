use Rattle.page_rules.specs.Pages.{no_page_there, next_there, next_missing}
use Rattle.page_rules.proofs.nextless_at.Goals as goal

pub returns-then-kind-ne-PAGE : goal.returns-then-kind-ne-PAGE
returns-then-kind-ne-PAGE c =
    let a = c.args in
    no_page_there a.rows.table.grid a.rows.table.words.now a.rows.used a.row c.requires c.word-kind.ensures c.if-kind-ne-PAGE.true

pub returns-then-detail-ne0 : goal.returns-then-detail-ne0
returns-then-detail-ne0 c =
    let a = c.args in
    next_there a.rows.table.grid a.rows.table.words.now a.rows.used a.row c.requires c.word-kind.ensures
    c.if-kind-ne-PAGE.false c.next_of_page-next.ensures c.word-detail.ensures c.if-detail-ne0.true

pub returns : goal.returns
returns c =
    let a = c.args in
    next_missing a.rows.table.grid a.rows.table.words.now a.rows.used a.row c.requires c.word-kind.ensures
    c.if-kind-ne-PAGE.false c.next_of_page-next.ensures c.word-detail.ensures c.if-detail-ne0.false c.word-first.ensures
