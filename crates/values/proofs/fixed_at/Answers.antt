-- `values::fixed_at` meets its contract. Assumes nothing.
use mathlib.Core.Path.{sym}
use native.Mathlib.Omega.{arith}
use lib.ListN.{length-drop}
use Rattle.values.proofs.Laws.{missing, kept, no_rule}
use Rattle.values.proofs.fixed_at.Goals as goal

pub returns-then-left-size : goal.returns-then-left-size
returns-then-left-size c = rw c.at.ensures (sym (missing _ _ _ _ (omega arith)))

pub overflow_add-next : goal.overflow_add-next
overflow_add-next c =
    let a = c.args in
    omega (arith, length-drop a.at a.file.now)

pub returns-in_default : goal.returns-in_default
returns-in_default c = sym (kept _ _ _ _ (omega arith) (no_rule _ _ c.in_default.in_default-own.rest.1 (λ e. omega arith) (λ e. omega arith)))

pub returns-in_default-2 : goal.returns-in_default-2
returns-in_default-2 c = sym (kept _ _ _ _ (omega arith) (no_rule _ _ c.in_default.in_default-own.rest.1 (λ e. omega arith) (λ e. omega arith)))
