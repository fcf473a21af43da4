use Rattle.pack_entry_theorems.proofs.Laws.{finds_told}
use Rattle.pack_entry_theorems.proofs.find.Goals as goal

pub returns : goal.returns
returns c =
    let a = c.args in
    finds_told a.pack.now a.table.now a.path.now c.xnb_pack_find.ensures
