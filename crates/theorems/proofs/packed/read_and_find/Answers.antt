use lib.ListN.{length}
use Rattle.theorems.proofs.Files.{gives}
use Rattle.theorems.proofs.packed.read_and_find.Goals as goal

pub returns : goal.returns
returns c =
    let a = c.args in
    gives a.marked a.pack.now (length a.table.now) a.path.now c.read.ensures.table_after c.find.ensures
