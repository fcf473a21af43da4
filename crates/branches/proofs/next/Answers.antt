use Rattle.branches.specs.Next.{branch_in}
use Rattle.branches.proofs.Laws.{no_row, none, past, behind}
use Rattle.branches.proofs.next.Goals as goal

pub returns-then-table-number : goal.returns-then-table-number
returns-then-table-number c =
    let a = c.args in
    no_row a.table.grid a.table.words.now a.row.0 c.if-table-number.true

pub returns-then-branch-eq0 : goal.returns-then-branch-eq0
unfolding branch_in
returns-then-branch-eq0 c =
    let a = c.args in
    none a.table.grid a.table.words.now a.row.0 c.if-table-number.false c.word-branch.ensures c.if-branch-eq0.true

pub returns-then-table-number-2 : goal.returns-then-table-number-2
unfolding branch_in
returns-then-table-number-2 c =
    let a = c.args in
    past a.table.grid a.table.words.now a.row.0 c.if-table-number.false c.word-branch.ensures c.if-branch-eq0.false c.if-table-number-2.true

pub returns : goal.returns
unfolding branch_in
returns c =
    let a = c.args in
    behind a.table.grid a.table.words.now a.row.0 c.if-table-number.false c.word-branch.ensures c.if-branch-eq0.false c.if-table-number-2.false
