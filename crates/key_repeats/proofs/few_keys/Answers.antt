use Rattle.key_repeats.specs.Gathered.{gathered-lowest}
use Rattle.key_repeats.proofs.few_keys.Goals as goal

pub returns : goal.returns
returns c =
    let a = c.args in
    gathered-lowest a.file.now a.rows.table.grid a.rows.table.words.now a.rows.used a.n a.first _ _ c.gather-m.ensures.0 c.pairs.result c.pairs.ensures
