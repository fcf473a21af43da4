use Rattle.std.proofs.Common.{arith}
use Rattle.numbers.specs.Bytes.{four_here}
use Rattle.numbers.proofs.little.U32Width.value.Goals as goal

pub returns-clause-there : goal.returns-clause-there
returns-clause-there c = λ h.
    let a = c.args in
    let l = four_here a.s.now (λ j. omega (arith, c.type_inv.s j)) a.i (omega arith) in
    record { value = omega (arith, l.value, c.from.ensures, c.from_le_bytes.ensures); below = omega (arith, l.below, c.from.ensures, c.from_le_bytes.ensures) }
