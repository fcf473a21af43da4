use Rattle.std.proofs.Common.{sym, ◌∙◌}
use Rattle.pack_reading.specs.Lookup.{find_of}
use Rattle.pack_told.proofs.Laws.{none_found, one_found}
use Rattle.pack_told.proofs.find_told.Goals as goal

pub returns-in-None : goal.returns-in-None
returns-in-None c =
    let a = c.args in
    none_found (find_of a.pack.now a.table.now a.path.now) (sym c.in-None.is ∙ c.find.ensures)

pub returns-in-Some : goal.returns-in-Some
returns-in-Some c =
    let a = c.args in
    one_found (find_of a.pack.now a.table.now a.path.now) (sym c.in-Some.is ∙ c.find.ensures)
