use Rattle.std.proofs.Common.{refl}
use Rattle.key_repeats.specs.Steps.{one_dictionary_as, all_dictionaries}
use Rattle.key_repeats.proofs.repeated_keys.Goals as goal

pub loop-row-init : goal.loop-row-init
loop-row-init c = λ rows d f. refl

pub loop-row-preserved : goal.loop-row-preserved
loop-row-preserved c =
    let a = c.args in
    one_dictionary_as a.file.now a.rows.table.grid a.rows.table.words.now a.rows.used c.loop-row.row c.loop-row.best c.dictionary.result c.lower-best.result c.lower-best.ensures c.loop-row-test.true c.loop-row.invariant c.dictionary.ensures

pub returns : goal.returns
returns c =
    let a = c.args in all_dictionaries a.file.now a.rows.table.grid a.rows.table.words.now a.rows.used c.loop-row.row c.loop-row.best c.loop-row-test.false c.loop-row.invariant
