use native.Mathlib.Omega.{arith}
use mathlib.Core.Path.{sym}
use mathlib.Core.Bool.{false≢true}
use mathlib.Core.Logic.{inl, inr}
use borrow.Author.Tests.{eqb-true, eqb-false}
use Rattle.xml_import.specs.Places.{Marked}
use Rattle.xml_import.proofs.known.sign.Goals as goal

pub returns-then-b-gt60 : goal.returns-then-b-gt60
unfolding Marked
returns-then-b-gt60 c =
    (λ e. record { no_and = λ q. omega (arith, c.if-b-gt60.true, q); no_less = λ q. omega (arith, c.if-b-gt60.true, q) }, λ e. absurd (false≢true e))

pub returns-then-b-eq60 : goal.returns-then-b-eq60
unfolding Marked
returns-then-b-eq60 c = (λ e. absurd (false≢true (sym e)), λ e. inr c.if-b-eq60.true)

pub returns : goal.returns
unfolding Marked
returns c = (λ e. record { no_and = eqb-false c.args.b 0x26 e; no_less = c.if-b-eq60.false }, λ e. inl (eqb-true c.args.b 0x26 e))
