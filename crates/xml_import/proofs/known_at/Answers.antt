use native.Mathlib.Omega.{arith}
use Rattle.xml_import.proofs.Texts.{start, stops}
use Rattle.xml_import.proofs.Taken.{amp_wrong, amp_entity, known_start, known_ends, known_run}
use Rattle.std.proofs.lemmas.Result.{err_from_is_err_and}
use Rattle.xml_import.proofs.known_at.Goals as goal

pub returns-then-xml-at-eq60 : goal.returns-then-xml-at-eq60
returns-then-xml-at-eq60 c = (known_ends (start c.requires.0) c.requires.1 c.if-at-xml.true c.if-xml-at-eq60.true).0

pub loop-i-init : goal.loop-i-init
loop-i-init c = known_start c.requires.0 c.requires.1 c.unmarked_rest-i.ensures

pub returns-then-b-eq60 : goal.returns-then-b-eq60
returns-then-b-eq60 c = (known_ends c.loop-i.invariant c.requires.1 c.loop-i-test.true c.if-b-eq60.true).0

pub returns-in_err-entity : goal.returns-in_err-entity
returns-in_err-entity c =
    let p = err_from_is_err_and c.from_residual.result c.from_residual.ensures.1 in
    rw (p.1, p.2) (amp_wrong c.loop-i.invariant c.loop-i-test.true c.if-b-eq38.true _ c.in_err-entity.ensures)

pub loop-i-smaller-then-b-eq38 : goal.loop-i-smaller-then-b-eq38
loop-i-smaller-then-b-eq38 c =
    let v = amp_entity c.loop-i.invariant c.loop-i-test.true c.if-b-eq38.true _ c.in_ok-entity.ensures in
    omega (arith, v.1, v.2)

pub loop-i-preserved-then-b-eq38 : goal.loop-i-preserved-then-b-eq38
loop-i-preserved-then-b-eq38 c = (amp_entity c.loop-i.invariant c.loop-i-test.true c.if-b-eq38.true _ c.in_ok-entity.ensures).0

pub loop-i-smaller : goal.loop-i-smaller
loop-i-smaller c =
    let v = known_run c.loop-i.invariant c.requires.1 c.loop-i-test.true c.if-b-eq38.false c.if-b-eq60.false c.unmarked_run-run.ensures in
    omega (arith, v.1, c.unmarked_run-run.ensures.passed.inside)

pub loop-i-preserved : goal.loop-i-preserved
loop-i-preserved c = (known_run c.loop-i.invariant c.requires.1 c.loop-i-test.true c.if-b-eq38.false c.if-b-eq60.false c.unmarked_run-run.ensures).0

pub returns : goal.returns
returns c = stops c.loop-i.invariant c.loop-i-test.false
