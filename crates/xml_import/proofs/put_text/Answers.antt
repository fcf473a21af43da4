use mathlib.Core.Path.{refl}
use lib.ListN.{length-set}
use native.Mathlib.Omega.{arith}
use Rattle.xml_import.proofs.Writing.{start, before_end, no_failure, entity-turn, ended}
use Rattle.xml_import.proofs.Runs.{run-turn}
use Rattle.xml_escape.specs.Wrote.{wrote_one}
use Rattle.xml_import.proofs.Taken.{put_run}
use Rattle.xml_import.proofs.put_text.Goals as goal

pub loop-j-init : goal.loop-j-init
loop-j-init c = start c.requires.0

pub bounds-xml-i : goal.bounds-xml-i
bounds-xml-i c = before_end c.loop-j.invariant c.loop-j-test.true

pub returns-in_default : goal.returns-in_default
returns-in_default c = absurd (no_failure c.loop-j.invariant c.loop-j-test.true _ c.in_default.ensures)

pub loop-j-preserved-then-xml-i-eq38 : goal.loop-j-preserved-then-xml-i-eq38
loop-j-preserved-then-xml-i-eq38 c =
    let v = entity-turn c.loop-j.invariant c.loop-j-test.true _ c.in-Ok.ensures in
    v.turns (length-set c.loop-j.out c.loop-j.j _) (λ base done w h. wrote_one _ w h refl)

pub loop-j-smaller : goal.loop-j-smaller
loop-j-smaller c =
    let u = put_run c.loop-j.invariant c.loop-j-test.true c.if-xml-i-eq38.false c.put_run-run.ensures.stops in
    let v = run-turn c.loop-j.invariant u.0 c.put_run-run.ensures.put c.put_run-run.auto.out in
    omega (arith, v.1, u.1)

pub loop-j-preserved : goal.loop-j-preserved
loop-j-preserved c =
    let u = put_run c.loop-j.invariant c.loop-j-test.true c.if-xml-i-eq38.false c.put_run-run.ensures.stops in
    (run-turn c.loop-j.invariant u.0 c.put_run-run.ensures.put c.put_run-run.auto.out).0

pub returns : goal.returns
returns c = ended c.loop-j.invariant c.loop-j-test.false
