use mathlib.Core.Path.{◌≡◌, ap}
use Prim.Native.Nat.{◌%◌}
use native.Mathlib.Omega.{arith}
use lib.Bits.{bit_or}
use lib.Pow.{shl_exact}
use Rattle.numbers.specs.Steps.{joined}
use Rattle.numbers.proofs.seven.join.Goals as goal

-- nothing of seven bits is shifted out of 64
pub returns : goal.returns
unfolding joined
returns c =
    let a = c.args in
    let r : a.bits % 128 ≡ a.bits = omega arith in
    rw r (ap (bit_or a.low) (shl_exact 7 a.bits_read 64 (omega arith) (omega arith)))
