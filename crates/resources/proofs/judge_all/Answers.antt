-- `resources::judge_all` meets its contract: before each turn the rows from `i` on give the answer and the words. Assumes nothing.
use mathlib.Core.Path.{refl, sym, ◌∙◌}
use Rattle.resources.proofs.Nulls.{named-row, null_turn, null_end}
use borrow.Author.Rules.{rules}
use Rattle.resources.proofs.judge_all.Goals as goal

both : {A B : Type 0} → A → B → A × B
both a b = (a, b)

named : {A B : Type 0} → A × B → record { value : A; words_after : B }
named p = record { value = p.0; words_after = p.1 }

pub returns-then-clear_null : goal.returns-then-clear_null
returns-then-clear_null c =
    let same = c.clear_null.ensures.words_after ∙ named-row _ _ c.loop-i.i (sym c.clear_null.ensures.value ∙ c.if-clear_null.true) in
    named (rw (same, c.loop-i.invariant.1) at (both c.judge_from.ensures.value c.judge_from.ensures.words_after))

pub loop-i-preserved : goal.loop-i-preserved
loop-i-preserved c =
    let e = null_turn _ _ c.loop-i.i _ c.loop-i-test.true c.requires (sym c.clear_null.ensures.value ∙ c.if-clear_null.false) in
    (search rules, rw c.clear_null.ensures.words_after (sym e ∙ c.loop-i.invariant.1))

pub returns : goal.returns
returns c = named (rw (sym c.loop-i.invariant.1 ∙ null_end _ _ _ _ c.loop-i-test.false) (refl, refl))
