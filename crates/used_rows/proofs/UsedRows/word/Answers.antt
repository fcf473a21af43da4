use Rattle.used_rows.specs.Steps.{word_none, word_wide}
use Rattle.used_rows.proofs.UsedRows.word.Goals as goal

pub returns-then-self-row : goal.returns-then-self-row
returns-then-self-row c =
    let a = c.args in word_none a.self.table.grid a.self.table.words.now a.self.used a.row a.word c.if-self-row.true

pub returns-then-word-ge-WIDTH : goal.returns-then-word-ge-WIDTH
returns-then-word-ge-WIDTH c =
    let a = c.args in word_wide a.self.table.grid a.self.table.words.now a.self.used a.row a.word c.if-word-ge-WIDTH.true
