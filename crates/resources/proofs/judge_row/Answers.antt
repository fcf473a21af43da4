-- `resources::judge_row` meets its contract, by whether the row's kind is 36 and its resource suits it. Assumes nothing.
use mathlib.Core.Path.{refl, sym, ◌∙◌}
use borrow.Author.Tests.{eq-eqb, ne_eqb}
use Rattle.resources.specs.Total.{row_settled}
use Rattle.resources.proofs.judge_row.Goals as goal

named : {A B : Type 0} → A × B → record { value : A; words_after : B }
named p = record { value = p.0; words_after = p.1 }

pub returns-then-word-ne-SHARED_REFERENCE : goal.returns-then-word-ne-SHARED_REFERENCE
unfolding row_settled
returns-then-word-ne-SHARED_REFERENCE c = named (rw (← c.word.ensures, ne_eqb _ 36 c.if-word-ne-SHARED_REFERENCE.true) (refl, refl))

pub returns-then-not-suits_id : goal.returns-then-not-suits_id
unfolding row_settled
returns-then-not-suits_id c =
    let t = sym c.suits_id.ensures ∙ c.if-not-suits_id.true in
    let t' = rw (c.word-wanted.ensures, c.word-id.ensures) at t in
    named (rw (← c.word.ensures, eq-eqb _ 36 c.if-word-ne-SHARED_REFERENCE.false, t', c.word-then-not-suits_id.ensures) (refl, refl))

pub returns : goal.returns
unfolding row_settled
returns c =
    let t = sym c.suits_id.ensures ∙ c.if-not-suits_id.false in
    let t' = rw (c.word-wanted.ensures, c.word-id.ensures) at t in
    named (rw (← c.word.ensures, eq-eqb _ 36 c.if-word-ne-SHARED_REFERENCE.false, t') (refl, rw c.cell.ensures at c.put_word.ensures))
