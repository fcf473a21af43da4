-- `filled_at` meets its contract: before each turn the text is taken up to i. Assumes nothing.
use borrow.Author.Rules.{rules}
use native.Mathlib.Omega.{arith}
use Rattle.xml_import.proofs.Texts.{ends, end-inside, wrong, plain_on, stops}
use Rattle.xml_import.proofs.Runs.{run_on, opened}
use Rattle.xml_import.proofs.Taken.{amp_wrong, amp_entity}
use Rattle.xml_import.proofs.Characters.{plain-fails, plain-takes}
use Rattle.std.proofs.lemmas.Result.{err_from_is_err_and}
use Rattle.xml_import.proofs.filled_at.Goals as goal

pub loop-i-init : goal.loop-i-init
loop-i-init c = opened c.requires c.opening-i.ensures

pub returns-in_err-entity : goal.returns-in_err-entity
returns-in_err-entity c =
    let p = err_from_is_err_and c.from_residual.result c.from_residual.ensures.1 in
    rw (p.1, p.2) (amp_wrong c.loop-i.invariant c.loop-i-test.true c.if-xml-i-eq38.true _ c.in_err-entity.ensures)

pub loop-i-smaller-then-xml-i-eq38 : goal.loop-i-smaller-then-xml-i-eq38
loop-i-smaller-then-xml-i-eq38 c = let v = amp_entity c.loop-i.invariant c.loop-i-test.true c.if-xml-i-eq38.true _ c.in_ok-entity.ensures in omega (arith, v.1, v.2)

pub loop-i-preserved-then-xml-i-eq38 : goal.loop-i-preserved-then-xml-i-eq38
loop-i-preserved-then-xml-i-eq38 c = (amp_entity c.loop-i.invariant c.loop-i-test.true c.if-xml-i-eq38.true _ c.in_ok-entity.ensures).0

pub loop-i-preserved-then-i-run : goal.loop-i-preserved-then-i-run
loop-i-preserved-then-i-run c = run_on c.loop-i.invariant c.standing-run.ensures

pub returns-then-n-eq7 : goal.returns-then-n-eq7
returns-then-n-eq7 c = ends c.loop-i.invariant c.end_at-n.ensures c.if-n-eq7.true

pub overflow_add-i : goal.overflow_add-i
overflow_add-i c = omega (arith, end-inside c.loop-i.invariant c.end_at-n.ensures)

pub returns-in-Err : goal.returns-in-Err
returns-in-Err c =
    wrong c.loop-i.invariant c.end_at-n.ensures c.if-n-eq7.false (plain-fails _ _ c.loop-i-test.true c.if-xml-i-eq38.false _ c.in-Err.ensures) (search rules)

pub overflow_sub-size-in-Ok : goal.overflow_sub-size-in-Ok
overflow_sub-size-in-Ok c =
    let v = plain_on c.loop-i.invariant c.end_at-n.ensures c.if-n-eq7.false (plain-takes _ _ c.loop-i-test.true c.if-xml-i-eq38.false _ c.in-Ok.ensures) in omega (arith, v.1)

pub loop-i-smaller : goal.loop-i-smaller
loop-i-smaller c =
    let v = plain_on c.loop-i.invariant c.end_at-n.ensures c.if-n-eq7.false (plain-takes _ _ c.loop-i-test.true c.if-xml-i-eq38.false _ c.in-Ok.ensures) in omega (arith, v.1, v.2)

pub loop-i-preserved : goal.loop-i-preserved
loop-i-preserved c = (plain_on c.loop-i.invariant c.end_at-n.ensures c.if-n-eq7.false (plain-takes _ _ c.loop-i-test.true c.if-xml-i-eq38.false _ c.in-Ok.ensures)).0

pub returns : goal.returns
returns c = stops c.loop-i.invariant c.loop-i-test.false
