-- `resources::judge_rows` meets its contract: before each turn the rows from `i` on give the answer and the words. Assumes nothing.
use mathlib.Core.Path.{refl, sym, ◌∙◌}
use Rattle.resources.proofs.Turns.{rows-turn, rows_end}
use borrow.Author.Rules.{rules}
use Rattle.resources.proofs.judge_rows.Goals as goal

both : {A B : Type 0} → A → B → A × B
both a b = (a, b)

named : {A B : Type 0} → A × B → record { value : A; words_after : B }
named p = record { value = p.0; words_after = p.1 }

pub returns-in-Some : goal.returns-in-Some
returns-in-Some c =
    let j = rw c.in-Some.is at (both c.judge_row.ensures.value c.judge_row.ensures.words_after) in
    let e = rows-turn _ _ _ _ _ c.loop-i-test.true j.0 j.1 in
    named (rw (sym c.loop-i.invariant.1 ∙ e) (refl, refl))

pub loop-i-preserved : goal.loop-i-preserved
loop-i-preserved c =
    let j = rw c.in_default.is at (both c.judge_row.ensures.value c.judge_row.ensures.words_after) in
    let e = rows-turn _ _ _ _ _ c.loop-i-test.true j.0 j.1 in
    (search rules, sym e ∙ c.loop-i.invariant.1)

pub returns : goal.returns
returns c = named (rw (sym c.loop-i.invariant.1 ∙ rows_end _ _ _ _ _ c.loop-i-test.false) (refl, refl))
