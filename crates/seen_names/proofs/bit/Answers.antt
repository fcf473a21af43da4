use native.Mathlib.Omega.{arith}
use Prim.Native.Nat.{◌%◌}
use mathlib.Core.Path.{◌∙◌}
use native.Mathlib.Nat.{one-mul}
use lib.Pow.{shl_exact}
use Rattle.seen_names.proofs.bit.Goals as goal

-- one bit is not shifted out of 64
pub returns : goal.returns
returns c = shl_exact 1 (c.args.n % 64) 64 (omega arith) (omega arith) ∙ one-mul _
