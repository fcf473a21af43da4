use Rattle.std.proofs.Common.{Err, ap, ◌∙◌, length, arith, rules}
use Rattle.std.proofs.lemmas.Result.{err_from_is_err_and}
use Rattle.reading.specs.Reads.{small_by_index}
use Rattle.driver.specs.Facts.{hand_on, settled}
use Rattle.driver.proofs.load_driver.Goals as goal

named : {A B : Type 0} → A × B → record { value : A; words_after : B }
named p = record { value = p.0; words_after = p.1 }

pub returns-in_err-loaded : goal.returns-in_err-loaded
returns-in_err-loaded c =
    let a = c.args in
    let p = err_from_is_err_and c.from_residual.result c.from_residual.ensures.1 in
    let h = hand_on a.enums.now a.file.now (length a.words.now) c.in_err-loaded.ensures.value in
    record { value = p.1 ∙ ap Err p.2 ∙ h.0; words_after = c.in_err-loaded.ensures.words_after ∙ h.1 }

pub returns : goal.returns
returns c =
    let a = c.args in
    let small = small_by_index a.file.now (λ i h. omega (arith, c.type_inv.file i)) in
    named (settled a.enums.now a.file.now (length a.words.now) small (λ i h. omega (arith, c.type_inv.enums i)) c.in_ok-loaded.ensures.value
    c.load.new.words c.settle.new.words c.settle.result (search rules) c.in_ok-loaded.ensures.words_after c.settle.ensures)
