use Rattle.std.specs.Prelude.{length}
use Rattle.std.proofs.Common.{sym, ◌∙◌, arith}
use Rattle.pack_reading.specs.Lookup.{find_of}
use Rattle.pack_lookup.specs.Lookup.{data_inside}
use Rattle.pack_load.proofs.Laws.{told-absent, told_found}
use Rattle.pack_load.proofs.load_found.Goals as goal

pub overflow_add-end : goal.overflow_add-end
overflow_add-end c =
    let a = c.args in
    omega (arith, data_inside a.pack.now a.table.now a.path.now (sym c.in-Some.is ∙ c.find.ensures))

pub slice_bounds-load-end : goal.slice_bounds-load-end
slice_bounds-load-end c =
    let a = c.args in
    data_inside a.pack.now a.table.now a.path.now (sym c.in-Some.is ∙ c.find.ensures)

pub returns-in-None : goal.returns-in-None
returns-in-None c =
    let a = c.args in
    let t = told-absent a.enums.now a.pack.now a.words.now (find_of a.pack.now a.table.now a.path.now) (sym c.in-None.is ∙ c.find.ensures) in
    record { value = t.answers; words_after = c.clear.ensures ∙ t.leaves }

pub returns-in-Some : goal.returns-in-Some
returns-in-Some c =
    let a = c.args in
    let x = find_of a.pack.now a.table.now a.path.now in
    let t = told_found a.enums.now a.pack.now (length a.words.now) x _ _ (sym c.in-Some.is ∙ c.find.ensures) c.load.ensures.value c.load.ensures.words_after in
    record { value = t.answers; words_after = t.leaves }
