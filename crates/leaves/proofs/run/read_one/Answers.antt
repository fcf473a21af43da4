use mathlib.Core.Path.{refl}
use Rattle.std.proofs.lemmas.Result.{err_from_is_err_and}
use Rattle.leaves.specs.Same.{one_run}
use Rattle.leaves.proofs.run.read_one.Goals as goal

named : {A B : Type 0} → A × B → record { value : A; words_after : B }
named p = record { value = p.0; words_after = p.1 }

pub returns-in_err-reached : goal.returns-in_err-reached
returns-in_err-reached c =
    let a = c.args in
    let p = err_from_is_err_and c.from_residual.result c.from_residual.ensures.1 in
    named (rw (p.1, p.2, one_run a.grid a.file.now a.shared a.slot a.spot.depth a.spot.parent a.spot.at a.spot.used a.words.now _ _ c.in_err-reached.ensures.value c.read_plain.ensures.words_after) (refl, refl))

pub returns : goal.returns
returns c =
    let a = c.args in
    named (rw (
      one_run a.grid a.file.now a.shared a.slot a.spot.depth a.spot.parent a.spot.at a.spot.used a.words.now _ _ c.in_ok-reached.ensures.value c.read_plain.ensures.words_after,
      c.sum.ensures,
    ) (refl, refl))
