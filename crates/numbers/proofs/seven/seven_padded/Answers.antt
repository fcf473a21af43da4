-- `numbers::seven::seven_padded` meets its contract: a number that the first step ends or refuses is what the five steps come to. Assumes nothing.
use Rattle.std.proofs.Common.{arith}
use Rattle.std.proofs.lemmas.Result.{err_from_is_err_and}
use Rattle.numbers.specs.FiveSteps.{after_first}
use Rattle.numbers.proofs.seven.seven_padded.Goals as goal

pub returns-in_err-number : goal.returns-in_err-number
returns-in_err-number c =
    let a = c.args in
    let p = err_from_is_err_and c.from_residual.result c.from_residual.ensures.1 in
    rw (p.1, p.2) (after_first a.s.now a.start (λ i l. omega (arith, c.type_inv.s i)) _ c.in_err-number.ensures)

pub returns-in-Ends : goal.returns-in-Ends
returns-in-Ends c =
    let a = c.args in
    after_first a.s.now a.start (λ i l. omega (arith, c.type_inv.s i)) _ (rw c.in-Ends.is at c.in_ok-number.ensures)
