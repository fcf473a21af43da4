-- `targets::after` meets its contract. Assumes nothing.
use Rattle.std.proofs.Common.{refl, arith}
use Rattle.targets.specs.Place.{place_after}
use Rattle.targets.proofs.Loops.{extent-none, extent-end, extent-step}
use Rattle.targets.proofs.after.Goals as goal

pub loop-i-init : goal.loop-i-init
unfolding place_after
loop-i-init c = (refl, omega arith, omega arith)

pub returns-then-need-eq0 : goal.returns-then-need-eq0
returns-then-need-eq0 c = extent-none _ _ _ c.loop-i.invariant.0 c.if-need-eq0.true

pub overflow_add-need : goal.overflow_add-need
overflow_add-need c = omega (arith, c.loop-i.invariant.1, c.well_formed)

pub loop-i-preserved : goal.loop-i-preserved
loop-i-preserved c = (extent-step _ _ _ c.loop-i.invariant.0 c.loop-i-test.true c.if-need-eq0.false, omega (arith, c.loop-i.invariant.1), omega (arith, c.loop-i-test.true))

pub returns : goal.returns
returns c = omega (arith, c.max.ensures, extent-end _ _ _ c.loop-i.invariant.0 c.loop-i-test.false, c.loop-i.auto.i, c.loop-i.invariant.2, c.loop-i-test.false)
