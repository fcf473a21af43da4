use mathlib.Core.Path.{◌∙◌, ap}
use native.Mathlib.Omega.{arith}
use Rattle.numbers.specs.Steps.{step, last_step}
use Rattle.numbers.specs.FiveSteps.{five_steps}
use Rattle.numbers.proofs.seven.all_steps.Goals as goal

pub returns : goal.returns
returns c =
    let a = c.args in
    c.fifth.ensures
    ∙ ap (last_step a.s.now a.start) (c.fourth-four.ensures
    ∙ ap (step 3 a.s.now a.start) (c.third-three.ensures
    ∙ ap (step 2 a.s.now a.start) (c.second-two.ensures
    ∙ ap (step 1 a.s.now a.start) c.first-one.ensures)))
    ∙ five_steps a.s.now a.start (λ i l. omega (arith, c.type_inv.s i))
