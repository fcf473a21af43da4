use Rattle.names.proofs.Laws.{common-past}
use native.Mathlib.Omega.{arith}
use Rattle.names.proofs.texts.matched_at.Goals as goal

pub returns-then-s-at : goal.returns-then-s-at
returns-then-s-at c =
    let a = c.args in
    common-past a.text.now a.s.now a.at (omega (arith, c.if-s-at.true))

pub matched-requires : goal.matched-requires
matched-requires c = omega (arith, c.if-s-at.false)
