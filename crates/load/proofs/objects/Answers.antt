use mathlib.Core.Path.{◌≡◌, sym, ap, ◌∙◌}
use mathlib.Core.List.{List}
use native.Mathlib.Omega.{arith}
use Rattle.std.proofs.lemmas.Result.{err_from_is_err_and}
use Prim.Native.Nat.{ℕ}
use Rattle.layout.specs.Slot.{each}
use Rattle.reading.specs.Drafts.{bare}
use Rattle.reading.specs.Reads.{small_by_index}
use Rattle.reading.specs.Walk.{Taken}
use Rattle.reading.specs.File.{finished}
use Rattle.table.specs.declared.Grid.{Grid}
use Rattle.load.specs.Loads.{Loading, Total, Loads}
use Rattle.load.specs.Laws.{roots, roots_are, objects-lost, objects-got, objects-loaded, objects-padded, loads-refused}
use borrow.Author.Rules.{rules}
use Rattle.load.proofs.objects.Goals as goal

-- the same number of readers, said another way
recount : (g : Grid) (total : Total) (file : List ℕ) (platform flags : ℕ) (names : List (List ℕ)) (shared : ℕ) (a : Taken) (next : ℕ) (entry exit : List ℕ) (r : Loading) {n m : ℕ} → n ≡ m
    → Loads g total (finished file platform flags names n shared a next) entry exit r → Loads g total (finished file platform flags names m shared a next) entry exit r
recount g total file platform flags names shared a next entry exit r e f = rw (← e) f

pub below-requires : goal.below-requires
below-requires c =
    let a = c.args in
    let small = small_by_index a.file.now (λ i h. omega (arith, c.type_inv.file i)) in
    (c.requires.0, c.requires.1, record { plan = each (roots a.grid a.file.now small a.codes.now a.shared a.at c.requires.2); is = roots_are a.grid a.file.now small a.codes.now a.shared a.at c.requires.2 c.requires.1.prelude })

pub returns-in_err-children : goal.returns-in_err-children
returns-in_err-children c =
    λ total platform flags names readers l q.
    let a = c.args in
    let small = small_by_index a.file.now (λ i h. omega (arith, c.type_inv.file i)) in
    let i = roots_are a.grid a.file.now small a.codes.now a.shared a.at c.requires.2 c.requires.1.prelude in
    let p = err_from_is_err_and c.from_residual.result c.from_residual.ensures.1 in
    rw (p.1, p.2) (loads-refused _ total _ a.words.now _ (objects-lost a.grid a.file.now small a.codes.now a.shared a.at c.requires.2 platform flags names readers (c.below.ensures readers _ l i) c.in_err-children.was))

pub returns : goal.returns
returns c =
    λ total platform flags names readers l q.
    let a = c.args in
    let small = small_by_index a.file.now (λ i h. omega (arith, c.type_inv.file i)) in
    let i = roots_are a.grid a.file.now small a.codes.now a.shared a.at c.requires.2 c.requires.1.prelude in
    let o = objects-got a.grid a.file.now small a.codes.now a.shared a.at c.requires.2 platform flags names readers c.requires.0.long (c.below.ensures readers _ l i) c.in_ok-children.was in
    let s = objects-padded a.grid a.file.now small a.codes.now a.shared a.at c.requires.2 platform flags names readers total a.padding o q in
    let f = c.finish.ensures total platform flags names o.taken _ o.drafted (c.sum.ensures ∙ s ∙ ap (λ n. total n (bare o.taken.1)) (sym l.counts)) in
    objects-loaded a.grid a.file.now small a.codes.now a.shared a.at c.requires.2 platform flags names readers total a.words.now _ _ _ o (search rules) (recount a.grid total a.file.now platform flags names a.shared o.taken _ _ _ _ l.counts f)
