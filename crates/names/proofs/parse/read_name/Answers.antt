-- `names::parse::read_name` meets its contract. Assumes nothing.
use native.Mathlib.Omega.{arith}
use Rattle.std.proofs.lemmas.Result.{err_from_is_err_and}
use Rattle.names.proofs.Whole.{many_used, too_far, end_fits, broken_is, more_is, full_is, named_is}
use Rattle.names.proofs.parse.read_name.Goals as goal

pub returns-then-used-gt16777216 : goal.returns-then-used-gt16777216
returns-then-used-gt16777216 c = many_used c.if-used-gt16777216.true

pub returns-then-name-gt16777216 : goal.returns-then-name-gt16777216
returns-then-name-gt16777216 c = too_far (omega arith)

pub returns-then-name-at : goal.returns-then-name-at
returns-then-name-at c = too_far (omega arith)

pub returns-in_err-whole : goal.returns-in_err-whole
returns-in_err-whole c =
    let p = err_from_is_err_and c.from_residual.result c.from_residual.ensures.1 in
    rw (p.1, p.2) (broken_is _ _ _ _ _ _ c.if-used-gt16777216.false (omega (arith, c.if-name-gt16777216.false, c.if-name-at.false)) c.in_err-whole.ensures)

pub overflow_add-place : goal.overflow_add-place
overflow_add-place c =
    omega (arith, end_fits _ _ _ _ _ _ c.if-used-gt16777216.false (omega (arith, c.if-name-gt16777216.false, c.if-name-at.false)) c.in_ok-whole.ensures)

pub returns-then-whole-name : goal.returns-then-whole-name
returns-then-whole-name c =
    rw c.at.ensures (more_is _ _ _ _ _ _ c.if-used-gt16777216.false (omega (arith, c.if-name-gt16777216.false, c.if-name-at.false)) c.in_ok-whole.ensures c.if-whole-name.true)

pub returns-then-codes-whole : goal.returns-then-codes-whole
returns-then-codes-whole c =
    full_is _ _ _ _ _ _ c.if-used-gt16777216.false (omega (arith, c.if-name-gt16777216.false, c.if-name-at.false)) c.in_ok-whole.ensures c.if-whole-name.false (omega (arith, c.if-codes-whole.true, c.parse.auto.codes))

pub returns : goal.returns
returns c =
    named_is _ _ _ _ _ _ c.if-used-gt16777216.false (omega (arith, c.if-name-gt16777216.false, c.if-name-at.false)) c.in_ok-whole.ensures c.if-whole-name.false (omega (arith, c.if-codes-whole.false, c.parse.auto.codes))
