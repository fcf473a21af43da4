use mathlib.Core.Path.{refl}
use Rattle.reader_rules.specs.Readers.{other_reader, this_reader}
use Rattle.reader_rules.proofs.names.Goals as goal

pub returns-then-detail-id : goal.returns-then-detail-id
returns-then-detail-id c =
    let a = c.args in
    other_reader a.rows.table.grid a.rows.table.words.now a.rows.used a.row a.id c.word-detail.ensures c.if-detail-id.true

pub returns : goal.returns
returns c =
    let a = c.args in
    this_reader a.rows.table.grid a.rows.table.words.now a.rows.used a.row a.id c.word-detail.ensures c.if-detail-id.false c.word-kind.ensures refl
