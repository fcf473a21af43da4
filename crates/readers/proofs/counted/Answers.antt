-- `readers::counted` meets its contract. Assumes nothing.
use mathlib.Core.Path.{sym, ap, ◌∙◌}
use native.Mathlib.Omega.{arith}
use Rattle.std.proofs.lemmas.Result.{err_from_is_err_and}
use Rattle.names.specs.EntryLaws.{enums-sized}
use Rattle.reading.specs.Reads.{small_by_index}
use Rattle.places.specs.Padding.{pad_few}
use Rattle.readers.specs.Steps.{shared_left_lem}
use Rattle.readers.specs.Room.{up_to_bound}
use Rattle.readers.specs.Meaning.{readers-take}
use borrow.Author.Rules.{rules}
use Rattle.readers.proofs.counted.Goals as goal

pub returns-in_err-names : goal.returns-in_err-names
returns-in_err-names c =
    let p = err_from_is_err_and c.from_residual.result c.from_residual.ensures.1 in
    rw (p.1, p.2) (shared_left_lem _ _ _ _ _ _ _ _ c.in_err-names.ensures)

pub returns-in_err-shared : goal.returns-in_err-shared
returns-in_err-shared c =
    let p = err_from_is_err_and c.from_residual-in_err-shared.result c.from_residual-in_err-shared.ensures.1 in
    rw (p.1, p.2) (shared_left_lem _ _ _ _ _ _ _ _ c.in_ok-names.ensures ∙ rw (sym c.in_err-shared.ensures))

pub overflow_cast-result : goal.overflow_cast-result
overflow_cast-result c = omega (arith, c.requires.0.1)

pub overflow_cast-result-2 : goal.overflow_cast-result-2
overflow_cast-result-2 c = omega (arith, up_to_bound _ _ _ (sym c.in_ok-shared.ensures))

pub overflow_add-result : goal.overflow_add-result
overflow_add-result c =
    let args = c.args in
    let small = small_by_index args.file.now (λ i h. omega (arith, c.type_inv.file i)) in
    let u = readers-take _ (enums-sized _) _ small _ _ _ _ _ c.requires.0 c.in_ok-names.ensures in
    omega (arith, u.1.passed.few, c.requires.0.1, c.requires.2)

pub overflow_add-result-2 : goal.overflow_add-result-2
overflow_add-result-2 c =
    let file = c.args.file.now in
    let small = small_by_index file (λ i h. omega (arith, c.type_inv.file i)) in
    let u = readers-take _ (enums-sized _) _ small _ _ _ _ _ c.requires.0 c.in_ok-names.ensures in
    omega (arith, u.1.passed.few, c.requires.0.1, c.requires.2, c.padding_at.ensures, pad_few file small c.in_ok-names.names.next)

pub returns : goal.returns
returns c = shared_left_lem _ _ _ _ _ _ _ _ c.in_ok-names.ensures ∙ rw (sym c.in_ok-shared.ensures, c.padding_at.ensures)
