use mathlib.Core.Path.{◌≡◌, refl, sym, ◌∙◌}
use Prim.Native.Nat.{◌<◌, ◌^◌}
use native.Mathlib.Omega.{arith}
use borrow.Author.Tests.{ltb-true, ltb-false}
use Rattle.std.proofs.lemmas.Result.{err_from_is_err_and}
use Rattle.reading.specs.Answer.{read}
use Rattle.reading.specs.Reads.{small_by_index}
use Rattle.reading.specs.Seven.{seven_at, seven_next}
use Rattle.numbers.specs.Padded.{pad_of, number_read, number-refused}
use Rattle.leaves.specs.Plain.{plain_pad, reference-refused, reference-beyond, reference-within}
use Rattle.leaves.proofs.plain.reference.Goals.{In_ok-number}
use Rattle.leaves.proofs.plain.reference.Goals as goal

both : {A B : Type 0} → A → B → A × B
both a b = (a, b)

named : {A B : Type 0} → A × B → record { value : A; words_after : B }
named p = record { value = p.0; words_after = p.1 }

-- the resource id was read, with its padding
number : (c : In_ok-number)
    → (seven_at c.args.file.now c.args.h.first ≡ read c.in_ok-number.number.value c.in_ok-number.number.next)
    × (c.in_ok-number.number.padding ≡ pad_of (seven_at c.args.file.now c.args.h.first) c.args.h.first)
number c =
    let a = c.args in
    number_read a.h.first (seven_at a.file.now a.h.first) c.in_ok-number.ensures

small-id : (c : In_ok-number) → c.in_ok-number.number.value < 2 ^ 32
small-id c =
    let s = c.args.file.now in
    (seven_next s (small_by_index s (λ i h. omega (arith, c.type_inv.file i))) _ (number c).0).2

pub overflow_cast-id : goal.overflow_cast-id
overflow_cast-id c = omega (arith, small-id (goal.at.overflow_cast-id c).In_ok-number)

pub returns-then-beyond : goal.returns-then-beyond
returns-then-beyond c =
    let a = c.args in
    named (rw (reference-beyond a.file.now a.shared a.wanted a.h.first (number (goal.at.returns-then-beyond c).In_ok-number).0 (ltb-true _ _ (sym c.beyond.ensures ∙ c.if-beyond.true)), c.at.ensures) (refl, refl))

pub returns-in_err-number : goal.returns-in_err-number
returns-in_err-number c =
    let a = c.args in
    let p = err_from_is_err_and c.from_residual.result c.from_residual.ensures.1 in
    named (rw (p.1, p.2, reference-refused a.file.now a.shared a.wanted a.h.first (number-refused a.h.first (seven_at a.file.now a.h.first) c.in_err-number.ensures)) (refl, refl))

pub returns : goal.returns
unfolding plain_pad
returns c =
    let a = c.args in
    let n = number (goal.at.returns c).In_ok-number in
    named (rw (reference-within a.file.now a.shared a.wanted a.h.first n.0 (ltb-false _ _ (sym c.beyond.ensures ∙ c.if-beyond.false)), ← n.1) (both c.leaf.ensures.value c.leaf.ensures.words_after))
