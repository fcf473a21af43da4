use mathlib.Core.Path.{sym, ◌∙◌}
use native.Mathlib.Omega.{arith}
use Rattle.pack_reading.specs.Lookup.{find_of}
use Rattle.pack_lookup.specs.Lookup.{data_inside, data_found, data_absent}
use Rattle.pack_lookup.proofs.find_bytes.Goals as goal

pub overflow_add-end : goal.overflow_add-end
overflow_add-end c =
    let a = c.args in
    omega (arith, data_inside a.pack.now a.table.now a.path.now (sym c.in-Some.is ∙ c.find.ensures))

pub slice_bounds-result-end-in-Some : goal.slice_bounds-result-end-in-Some
slice_bounds-result-end-in-Some c =
    let a = c.args in
    data_inside a.pack.now a.table.now a.path.now (sym c.in-Some.is ∙ c.find.ensures)

pub returns-in-None : goal.returns-in-None
returns-in-None c =
    let a = c.args in
    data_absent a.pack.now (find_of a.pack.now a.table.now a.path.now) (sym c.in-None.is ∙ c.find.ensures)

pub returns-in-Some : goal.returns-in-Some
returns-in-Some c =
    let a = c.args in
    data_found a.pack.now (find_of a.pack.now a.table.now a.path.now) (sym c.in-Some.is ∙ c.find.ensures)
