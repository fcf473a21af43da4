use Rattle.std.proofs.Common.{arith}
use Rattle.std.proofs.lemmas.Result.{err_from_is_err_and}
use Rattle.xml_export.proofs.Gathers.{measuring_start, measured_wrong, measured-text, measured_all}
use Rattle.xml_export.proofs.measure.Goals as goal

pub loop-i-init : goal.loop-i-init
loop-i-init c = measuring_start

pub returns-in_err-size : goal.returns-in_err-size
returns-in_err-size c =
    let p = err_from_is_err_and c.from_residual.result c.from_residual.ensures.1 in
    rw (p.1, p.2) (measured_wrong c.loop-i.invariant c.loop-i-test.true c.in_err-size.ensures)

pub overflow_add-size : goal.overflow_add-size
overflow_add-size c = let v = measured-text c.loop-i.invariant c.loop-i-test.true c.requires c.in_ok-size.ensures in omega (arith, v.bound)

pub overflow_add-size-in-loop-i : goal.overflow_add-size-in-loop-i
overflow_add-size-in-loop-i c = let v = measured-text c.loop-i.invariant c.loop-i-test.true c.requires c.in_ok-size.ensures in omega (arith, v.bound)

pub loop-i-preserved : goal.loop-i-preserved
loop-i-preserved c = measured-text c.loop-i.invariant c.loop-i-test.true c.requires c.in_ok-size.ensures

pub returns : goal.returns
returns c = measured_all c.loop-i.invariant c.loop-i-test.false
