use mathlib.Core.Path.{refl, sym, ap, subst, ◌∙◌}
use Prim.Native.Nat.{◌+◌}
use native.Mathlib.Omega.{arith}
use Rattle.reading.specs.Reads.{small_by_index}
use Rattle.table.specs.Word.{in_word}
use Rattle.leaves.proofs.RunLaws.{run_walked}
use Rattle.leaves.specs.Like.{like_walk, alike-sequence, alike-length}
use Rattle.steps.specs.Walks.{OpenedAs, begin_below}
use Rattle.steps.specs.Steps.{Children-are, raw-told, plain-ends, head-ends, slots_are}
use Rattle.load.proofs.Mapped.{mapped}
use Rattle.load.proofs.walk.close_flat.Goals as goal

pub overflow_add-first : goal.overflow_add-first
overflow_add-first c = omega (arith, c.requires.0.free)

pub returns-in-Nothing : goal.returns-in-Nothing
returns-in-Nothing c =
    λ codes readers t i k o.
    let a = c.args in
    let r = c.requires.0 in
    let small = small_by_index a.file.now (λ j h. omega (arith, c.type_inv.file j)) in
    let v = subst (λ b. OpenedAs a.file.now codes t a.at a.next b) c.in-Nothing.is o in
    let x = rw c.in-Nothing.is at c.requires.1 in
    rw (mapped c.leaf.result c.map.result c.map.ensures.cases, c.leaf.ensures.value, c.leaf.ensures.words_after, c.sum.ensures)
    (raw-told a.grid a.file.now codes readers a.shared a.depth t a.place a.h a.at _ (head-ends a.grid a.file.now a.h a.at t readers a.shared a.depth (λ q. x (k ∙ q)) small r i.lawful v a.kind k))

pub returns-in-Simple : goal.returns-in-Simple
returns-in-Simple c =
    λ codes readers t i k o.
    let a = c.args in
    let r = c.requires.0 in
    let small = small_by_index a.file.now (λ j h. omega (arith, c.type_inv.file j)) in
    let w = subst (λ b. OpenedAs a.file.now codes t a.at a.next b) c.in-Simple.is o in
    let v = w.goes in
    let x = rw c.in-Simple.is at c.requires.1 in
    let below = run_walked a.grid a.file.now small a.shared _ v.lawful readers a.depth (a.h.row.0 + 1) a.words.now a.next (a.h.row.0 + 1)
    (begin_below t small r w.is) in
    let m = slots_are a.grid a.file.now small readers a.shared a.depth v.slots a.next (a.h.row.0 + 1) c.word-n.result (omega (arith, r.free)) r.few
    (c.word-n.ensures ∙ ap in_word (c.turns.ensures ∙ sym (alike-length v.alike))) in
    let n = subst (λ plan. Children-are a.grid a.file.now readers a.shared a.depth plan a.next (a.h.row.0 + 1) c.word-n.result) (sym v.are) m in
    rw (
      c.close_plain.ensures.value,
      c.close_plain.ensures.words_after,
    ) (raw-told a.grid a.file.now codes readers a.shared a.depth t a.place a.h a.at _
    (plain-ends a.grid a.file.now {w₁ = c.read_run-walked.new.words} a.h a.at t readers a.shared a.depth c.word-n.result a.kind c.read_run-walked.result x small r
    i.lawful w refl n k (rw (
      v.are,
      alike-sequence _ (λ y z q b u. like_walk a.file.now readers a.shared a.grid.room a.depth q b u (a.h.row.0 + 1)) v.alike a.next (a.h.row.0 + 1),
      c.read_run-walked.ensures.value,
      c.read_run-walked.ensures.words_after,
    ) below)))

pub returns-in-Nested : goal.returns-in-Nested
returns-in-Nested c =
    λ codes readers t i k o.
    let a = c.args in
    record { same = refl; id_is = refl; padding_is = refl; from_is = refl; place_is = refl; opened = subst (λ b. OpenedAs a.file.now codes t a.at a.next b) c.in-Nested.is o }
