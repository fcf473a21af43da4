use mathlib.Core.Path.{sym, ap, ◌∙◌}
use mathlib.Core.Bool.{not}
use Prim.Native.Nat.{ℕ}
use lib.Dec.{eqb}
use borrow.Author.Tests.{eq-eqb}
use Rattle.enums.proofs.Judging.{new_unlisted}
use Rattle.enums.proofs.listed.Goals as goal

pub returns-then-note : goal.returns-then-note
returns-then-note c = record { value = λ _. ap (λ (z : ℕ). not (eqb z 0)) c.find.ensures; seen_after = c.note.ensures.seen_after }

pub returns : goal.returns
returns c =
    record { value = λ w. sym (ap not (eq-eqb _ _ (new_unlisted _ _ _ (sym c.note.ensures.value ∙ c.if-note.false) w))); seen_after = c.note.ensures.seen_after }
