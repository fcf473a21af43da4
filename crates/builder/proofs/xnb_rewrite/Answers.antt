use mathlib.Core.Path.{sym, ◌∙◌}
use Rattle.builder.proofs.Laws.{rewrite_refused, rewrite_length}
use borrow.Author.Rules.{rules}
use Rattle.builder.proofs.xnb_rewrite.Goals as goal

both : {A B : Type 0} → A → B → A × B
both a b = (a, b)

named : {A B C : Type 0} → A × (B × C) → record { value : A; out_after : B; words_after : C }
named p = record { value = p.0; out_after = p.1.0; words_after = p.1.1 }

pub returns-in-Err : goal.returns-in-Err
returns-in-Err c =
    named ((rewrite_refused _ (sym c.in-Err.is ∙ c.rewrite.ensures.value) c.packed.ensures, (both c.rewrite.ensures.out_after c.rewrite.ensures.words_after)))

pub returns-in-Ok : goal.returns-in-Ok
returns-in-Ok c =
    named ((rewrite_length _ (sym c.in-Ok.is ∙ c.rewrite.ensures.value), (both c.rewrite.ensures.out_after c.rewrite.ensures.words_after)))
