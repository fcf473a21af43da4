-- `fill::copy` meets its contract. Assumes nothing.
use mathlib.Core.Path.{◌∙◌}
use native.Mathlib.Omega.{arith}
use Rattle.fill.proofs.Laws.{put_pasted, in_both, not_both}
use Rattle.fill.proofs.copy.Goals as goal

named : {A B : Type 0} → A × B → record { value : A; out_after : B }
named p = record { value = p.0; out_after = p.1 }

pub returns-then-out-to : goal.returns-then-out-to
returns-then-out-to c = named (not_both _ _ _ _ _ (λ b. omega arith))

pub returns-then-out-to-2 : goal.returns-then-out-to-2
returns-then-out-to-2 c = named (not_both _ _ _ _ _ (λ b. omega arith))

pub returns-then-src-from : goal.returns-then-src-from
returns-then-src-from c = named (not_both _ _ _ _ _ (λ b. omega arith))

pub returns-then-src-from-2 : goal.returns-then-src-from-2
returns-then-src-from-2 c = named (not_both _ _ _ _ _ (λ b. omega arith))

pub returns : goal.returns
returns c =
    let a = c.args in
    let b = in_both a.out.now a.to a.src.now a.from a.n (omega arith) (omega arith) in
    record { value = b.0; out_after = put_pasted a.out.now a.to a.src.now a.from a.n (omega arith) (omega arith) c.copy_from_slice.ensures.after ∙ b.1 }
