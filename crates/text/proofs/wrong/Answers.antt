use mathlib.Core.Bool.{xor}
use Rattle.text.proofs.Windows.{fits}
use Rattle.text.proofs.wrong.Goals as goal

pub returns : goal.returns
unfolding xor
returns c =
    let a = c.args in
    λ w. fits a.a a.b a.c a.d (rw (← c.low.ensures, ← c.high.ensures) w)
