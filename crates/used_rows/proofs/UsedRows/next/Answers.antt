use Rattle.used_rows.specs.Steps.{follow-end, follow-past, follow_on}
use Rattle.used_rows.proofs.UsedRows.next.Goals as goal

pub returns-then-self-row : goal.returns-then-self-row
returns-then-self-row c = let a = c.args in follow-end a.self.table.grid a.self.table.words.now a.self.used a.row c.if-self-row.true

pub returns-then-left-branch : goal.returns-then-left-branch
returns-then-left-branch c =
    let a = c.args in
    follow-past a.self.table.grid a.self.table.words.now a.self.used a.row c.if-self-row.false c.word-branch.ensures c.if-left-branch.true

pub returns : goal.returns
returns c =
    let a = c.args in
    follow_on a.self.table.grid a.self.table.words.now a.self.used a.row c.if-self-row.false c.word-branch.ensures c.if-left-branch.false
