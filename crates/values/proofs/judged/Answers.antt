-- `values::judged` meets its contract. Assumes nothing.
use mathlib.Core.Path.{◌≡◌, sym, ◌∙◌}
use native.Mathlib.Omega.{arith}
use lib.ListN.{take, drop, length-drop}
use Rattle.reading.specs.Fixed.{rule}
use Rattle.values.proofs.Laws.{kept, broken}
use Rattle.values.proofs.judged.Goals.{After-keeps_rule}
use Rattle.values.proofs.judged.Goals as goal

-- the call tested the value's own bytes
said : (c : After-keeps_rule)
    → rule c.args.kind (take c.args.size (drop c.args.at c.args.file.now))
    ≡ c.keeps_rule.result
said c = sym (c.keeps_rule.ensures ∙ rw c.part.ensures)

pub overflow_add-result : goal.overflow_add-result
overflow_add-result c =
    let a = c.args in
    omega (arith, length-drop a.at a.file.now)

pub returns-then-keeps_rule : goal.returns-then-keeps_rule
returns-then-keeps_rule c = sym (kept _ _ _ _ c.requires (said (goal.at.returns-then-keeps_rule c).After-keeps_rule ∙ c.if-keeps_rule.true))

pub returns : goal.returns
returns c = rw c.at.ensures (sym (broken _ _ _ _ c.requires (said (goal.at.returns c).After-keeps_rule ∙ c.if-keeps_rule.false)))
