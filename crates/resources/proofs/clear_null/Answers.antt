-- `resources::clear_null` meets its contract, by whether the row's kind is 36 and its id is 0. Assumes nothing.
use mathlib.Core.Path.{refl}
use borrow.Author.Tests.{eq-eqb, ne_eqb}
use Rattle.resources.specs.Total.{null_cleared}
use Rattle.resources.proofs.clear_null.Goals as goal

named : {A B : Type 0} → A × B → record { value : A; words_after : B }
named p = record { value = p.0; words_after = p.1 }

pub returns-then-word-ne-SHARED_REFERENCE : goal.returns-then-word-ne-SHARED_REFERENCE
unfolding null_cleared
returns-then-word-ne-SHARED_REFERENCE c = named (rw (← c.word.ensures, ne_eqb _ 36 c.if-word-ne-SHARED_REFERENCE.true) (refl, refl))

pub returns-then-word-ne0 : goal.returns-then-word-ne0
unfolding null_cleared
returns-then-word-ne0 c = named (rw (← c.word.ensures, eq-eqb _ 36 c.if-word-ne-SHARED_REFERENCE.false, ← c.word-2.ensures, ne_eqb _ 0 c.if-word-ne0.true) (refl, refl))

pub returns : goal.returns
unfolding null_cleared
returns c =
    named (rw (← c.word.ensures, eq-eqb _ 36 c.if-word-ne-SHARED_REFERENCE.false, ← c.word-2.ensures, eq-eqb _ 0 c.if-word-ne0.false)
    (refl, rw c.cell-mark.ensures at c.put_word.ensures))
