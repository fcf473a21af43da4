use Rattle.theorems.specs.PackLaws.{find_exact}
use Rattle.theorems.proofs.packed.find_exact.Goals as goal

pub returns : goal.returns
returns c =
    let a = c.args in
    find_exact a.pack.now a.table.now a.path.now c.find.ensures
