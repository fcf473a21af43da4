use mathlib.Core.Path.{refl, sym, ◌∙◌}
use Rattle.std.proofs.lemmas.Result.{err_from_is_err_and}
use borrow.Author.Rules.{rules}
use Rattle.leaves.specs.Run.{run-turn, run_end}
use Rattle.leaves.proofs.run.read_each.Goals as goal

named : {A B : Type 0} → A × B → record { value : A; words_after : B }
named p = record { value = p.0; words_after = p.1 }

pub returns-in_err-reached : goal.returns-in_err-reached
returns-in_err-reached c =
    let a = c.args in
    let p = err_from_is_err_and c.from_residual.result c.from_residual.ensures.1 in
    let e = run-turn a.grid a.file.now a.shared a.run a.spot.depth a.spot.parent _ _ _ _ _ _ _ _ _ c.loop-i-test.true c.turn.ensures
    c.in_err-reached.ensures.value c.read_plain.ensures.words_after in
    named (rw (p.1, p.2, sym c.loop-i.invariant.2 ∙ e) (refl, refl))

pub loop-i-preserved : goal.loop-i-preserved
loop-i-preserved c =
    let a = c.args in
    let e = run-turn a.grid a.file.now a.shared a.run a.spot.depth a.spot.parent _ _ _ _ _ _ _ _ _ c.loop-i-test.true c.turn.ensures
    c.in_ok-reached.ensures.value c.read_plain.ensures.words_after in
    (c.loop-i.invariant.0, search rules, rw c.sum-padding.ensures (sym e ∙ c.loop-i.invariant.2))

pub returns : goal.returns
returns c =
    let a = c.args in
    named (rw (sym c.loop-i.invariant.2 ∙ run_end a.grid a.file.now a.shared a.run a.spot.depth a.spot.parent _ _ _ _ _ _ c.loop-i-test.false) (refl, refl))
