use mathlib.Core.Path.{refl, sym, ◌∙◌}
use Rattle.resources.proofs.Unmarked.{none_left}
use Rattle.resources.proofs.settle.Goals as goal

named : {A B : Type 0} → A × B → record { value : A; words_after : B }
named p = record { value = p.0; words_after = p.1 }

pub returns-then-not-any_reference : goal.returns-then-not-any_reference
returns-then-not-any_reference c =
    let none = sym c.any_reference.ensures ∙ c.if-not-any_reference.true in
    let fine = none_left _ _ _ none in
    named (rw fine (refl, refl))
