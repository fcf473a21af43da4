use mathlib.Core.Path.{refl}
use Rattle.std.proofs.lemmas.Result.{err_from_is_err_and}
use Rattle.load.proofs.walk.close_plain.Goals as goal

named : {A B : Type 0} → A × B → record { value : A; words_after : B }
named p = record { value = p.0; words_after = p.1 }

pub returns-in_err-reached : goal.returns-in_err-reached
returns-in_err-reached c =
    let p = err_from_is_err_and c.from_residual.result c.from_residual.ensures.1 in
    named (rw (c.in_err-reached.was, p.1, p.2) (refl, refl))

pub returns : goal.returns
returns c = named (rw (c.in_ok-reached.was, ← c.rows_from-branch.ensures, ← c.row_words-r.ensures, ← c.sum.ensures) (refl, c.put_row.ensures))
