use mathlib.Core.Path.{refl}
use mathlib.Core.Logic.{inl, inr}
use native.Mathlib.Omega.{arith}
use Rattle.load.proofs.walk.takeable.Goals as goal

pub returns-then-depth-eq0 : goal.returns-then-depth-eq0
returns-then-depth-eq0 c = (omega arith, inl refl)

pub returns-in-13 : goal.returns-in-13
returns-in-13 c = (omega arith, inr c.if-depth-eq0.false)

pub returns-in_default : goal.returns-in_default
returns-in_default c = (omega arith, inl refl)
