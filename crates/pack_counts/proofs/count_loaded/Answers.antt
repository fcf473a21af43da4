use Rattle.pack_counts.specs.Count.{all_rows}
use Rattle.pack_counts.proofs.count_loaded.Goals as goal

pub returns : goal.returns
returns c =
    let a = c.args in
    rw (c.count_rows.ensures, c.raise-2.ensures, c.raise.ensures) (all_rows a.file.now a.table.grid a.table.words.now a.used a.figures.now)
