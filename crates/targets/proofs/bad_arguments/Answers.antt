-- `targets::bad_arguments` meets its contract. Assumes nothing.
use Rattle.std.proofs.Common.{refl, sym, ◌∙◌}
use Rattle.targets.proofs.Loops.{arguments_end, arguments_no, arguments_step}
use Rattle.targets.proofs.bad_arguments.Goals as goal

pub loop-w-init : goal.loop-w-init
loop-w-init c = refl

pub returns-then-not-argument_ok : goal.returns-then-not-argument_ok
returns-then-not-argument_ok c = arguments_no _ _ _ c.loop-w.invariant c.loop-w-test.true (sym c.argument_ok.ensures ∙ c.if-not-argument_ok.true)

pub loop-w-preserved : goal.loop-w-preserved
loop-w-preserved c = arguments_step _ _ _ c.loop-w.invariant c.loop-w-test.true (sym c.argument_ok.ensures ∙ c.if-not-argument_ok.false)

pub returns : goal.returns
returns c = arguments_end _ _ _ c.loop-w.invariant c.loop-w-test.false
