use mathlib.Core.Path.{sym, ap, ◌∙◌}
use native.Mathlib.Omega.{arith}
use Rattle.layout.specs.Table.{room_of}
use Rattle.table.specs.declared.Grid.{Grid}
use Rattle.reading.specs.Reads.{small_by_index}
use Rattle.load.specs.Laws.{load_refused}
use Rattle.load.proofs.Laws.{load_loaded}
use borrow.Author.Rules.{rules}
use Rattle.load.proofs.load_in.Goals as goal

named : {A B : Type 0} → A × B → record { value : A; words_after : B }
named p = record { value = p.0; words_after = p.1 }

pub load_under-loaded-requires : goal.load_under-loaded-requires
unfolding room_of
load_under-loaded-requires c = omega (arith, ap (λ (g : Grid). g.room) c.shaped-grid.ensures)

pub returns-then-is_err : goal.returns-then-is_err
returns-then-is_err c =
    let a = c.args in
    let l = rw c.shaped-grid.ensures at c.load_under-loaded.ensures in
    named (load_refused a.enums.now a.file.now a.words.now a.columns _ _ l (search rules) (sym c.is_err.ensures.value ∙ c.if-is_err.true) c.clear.ensures)

pub returns-else-is_err : goal.returns-else-is_err
returns-else-is_err c =
    let a = c.args in
    let l = rw c.shaped-grid.ensures at c.load_under-loaded.ensures in
    let small = small_by_index a.file.now (λ i h. omega (arith, c.type_inv.file i)) in
    named (load_loaded a.enums.now a.file.now a.words.now a.columns small _ l (sym c.is_err.ensures.value ∙ c.if-is_err.false))
