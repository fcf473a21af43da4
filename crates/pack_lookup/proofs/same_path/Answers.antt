use native.Mathlib.Omega.{arith}
use Rattle.pack_lookup.proofs.Laws.{alike, other_lengths, other_block}
use Rattle.pack_lookup.proofs.same_path.Goals as goal

pub returns-then-a-b : goal.returns-then-a-b
returns-then-a-b c = other_lengths _ _ c.if-a-b.true

pub returns-then-a-eq0 : goal.returns-then-a-eq0
returns-then-a-eq0 c =
    let a = c.args in
    alike a.a.now a.b.now c.if-a-b.false (λ k h. absurd (omega (arith, c.if-a-eq0.true)))

pub returns-then-differ : goal.returns-then-differ
returns-then-differ c = other_block c.if-a-b.false (omega (arith, c.if-a-eq0.false)) c.differ.ensures c.if-differ.true
