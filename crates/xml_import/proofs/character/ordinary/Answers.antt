use native.Mathlib.Omega.{arith}
use borrow.Author.Tests.{le-leb, lt-leb, eq-eqb, ne_eqb}
use Rattle.xml_import.specs.Places.{stands_alone}
use Rattle.xml_import.proofs.character.ordinary.Goals as goal

pub returns-then-b-gt127 : goal.returns-then-b-gt127
unfolding stands_alone
returns-then-b-gt127 c = rw (le-leb 0x20 c.args.b (omega (arith, c.if-b-gt62.true)), lt-leb _ _ c.if-b-gt127.true)

pub returns-then-b-gt62 : goal.returns-then-b-gt62
unfolding stands_alone
returns-then-b-gt62 c =
    let a' = c.args in
    rw (
      le-leb 0x20 a'.b (omega (arith, c.if-b-gt62.true)),
      le-leb _ _ c.if-b-gt127.false,
      ne_eqb a'.b 0x22 (λ q. omega (arith, c.if-b-gt62.true, q)),
      ne_eqb a'.b 0x26 (λ q. omega (arith, c.if-b-gt62.true, q)),
      ne_eqb a'.b 0x3C (λ q. omega (arith, c.if-b-gt62.true, q)),
      ne_eqb a'.b 0x3E (λ q. omega (arith, c.if-b-gt62.true, q)),
    )

pub returns-then-b-lt32 : goal.returns-then-b-lt32
unfolding stands_alone
returns-then-b-lt32 c = rw (lt-leb _ _ c.if-b-lt32.true)

pub returns-then-b-eq34 : goal.returns-then-b-eq34
unfolding stands_alone
returns-then-b-eq34 c = rw (le-leb _ _ c.if-b-lt32.false, le-leb c.args.b 0x7F (omega (arith, c.if-b-gt62.false)), eq-eqb _ _ c.if-b-eq34.true)

pub returns-then-b-eq38 : goal.returns-then-b-eq38
unfolding stands_alone
returns-then-b-eq38 c =
    rw (le-leb _ _ c.if-b-lt32.false, le-leb c.args.b 0x7F (omega (arith, c.if-b-gt62.false)), ne_eqb _ _ c.if-b-eq34.false, eq-eqb _ _ c.if-b-eq38.true)

pub returns-then-b-eq60 : goal.returns-then-b-eq60
unfolding stands_alone
returns-then-b-eq60 c =
    let a' = c.args in
    rw (le-leb _ _ c.if-b-lt32.false, le-leb a'.b 0x7F (omega (arith, c.if-b-gt62.false)), ne_eqb _ _ c.if-b-eq34.false, ne_eqb _ _ c.if-b-eq38.false, eq-eqb _ _ c.if-b-eq60.true)

pub returns : goal.returns
unfolding stands_alone
returns c =
    let a' = c.args in
    rw (le-leb _ _ c.if-b-lt32.false, le-leb a'.b 0x7F (omega (arith, c.if-b-gt62.false)), ne_eqb _ _ c.if-b-eq34.false, ne_eqb _ _ c.if-b-eq38.false, ne_eqb _ _ c.if-b-eq60.false)
