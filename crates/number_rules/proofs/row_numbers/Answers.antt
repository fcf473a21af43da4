use Rattle.number_rules.specs.Numbers.{row_found}
use Rattle.number_rules.proofs.row_numbers.Goals as goal

pub returns : goal.returns
returns c =
    let a = c.args in
    row_found a.file.now a.rows.table.grid a.rows.table.words.now a.rows.used a.row c.requires c.value_numbers.result c.word-kind.ensures c.word-first.ensures c.word-detail.ensures c.value_numbers.ensures
