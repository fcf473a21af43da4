use mathlib.Core.Path.{refl, sym}
use Rattle.std.proofs.lemmas.Result.{err_from_is_err_and}
use Rattle.leaves.specs.Plain.{kept}
use Rattle.leaves.proofs.PlainLaws.{value-stops, value-goes}
use Rattle.leaves.proofs.plain.read_plain.Goals as goal

both : {A B : Type 0} → A → B → A × B
both a b = (a, b)

named : {A B : Type 0} → A × B → record { value : A; words_after : B }
named p = record { value = p.0; words_after = p.1 }

pub returns-in_err-room_for : goal.returns-in_err-room_for
returns-in_err-room_for c =
    let a = c.args in
    let p = err_from_is_err_and c.from_residual.result c.from_residual.ensures.1 in
    named (rw (p.1, p.2, value-stops a.file.now a.grid.room a.shared a.slot a.spot.at a.spot.used a.spot.depth c.in_err-room_for.ensures) (refl, sym (kept _ _ a.slot _ _ _)))

pub returns : goal.returns
returns c =
    let a = c.args in
    named (rw (value-goes a.file.now a.grid.room a.shared a.slot a.spot.at a.spot.used a.spot.depth c.in_ok-room_for.ensures) (rw c.head.ensures at (both c.plain_value.ensures.value c.plain_value.ensures.words_after)))
