-- `targets::same_types` meets its contract. Assumes nothing.
use Rattle.std.proofs.Common.{refl, sym, ◌∙◌, arith}
use Rattle.targets.proofs.Loops.{agree-none, agree-end, agree_no, agree-step}
use Rattle.targets.proofs.same_types.Goals as goal

pub loop-i-init : goal.loop-i-init
loop-i-init c = (refl, omega arith)

pub returns-then-need-eq0 : goal.returns-then-need-eq0
returns-then-need-eq0 c = agree-none _ c.args.s.now c.args.t.now c.loop-i.i _ c.loop-i.invariant.0 c.if-need-eq0.true

pub returns-then-not-same_code : goal.returns-then-not-same_code
returns-then-not-same_code c =
    agree_no _ c.args.s.now c.args.t.now c.loop-i.i _ c.loop-i.invariant.0 c.if-need-eq0.false (omega (arith, c.min-i-end.ensures)) (omega (arith, c.min-i-end.ensures)) (sym c.same_code.ensures ∙ c.if-not-same_code.true)

pub overflow_add-need : goal.overflow_add-need
overflow_add-need c = omega (arith, c.loop-i.invariant.1, c.well_formed)

pub loop-i-preserved : goal.loop-i-preserved
loop-i-preserved c =
    (agree-step _ c.args.s.now c.args.t.now c.loop-i.i _ c.loop-i.invariant.0 c.if-need-eq0.false (omega (arith, c.min-i-end.ensures)) (omega (arith, c.min-i-end.ensures)) (sym c.same_code.ensures ∙ c.if-not-same_code.false), omega (arith, c.loop-i.invariant.1))

pub returns : goal.returns
returns c = agree-end _ c.args.s.now c.args.t.now c.loop-i.i _ c.loop-i.invariant.0 (omega (arith, c.min-i-end.ensures, c.loop-i-test.false))
