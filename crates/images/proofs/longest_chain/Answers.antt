-- `images::longest_chain` meets its contract: what is left of 32 after the leading zeros of the larger side. Assumes nothing.
use native.Mathlib.Omega.{arith}
use Rattle.images.proofs.Sizes.{leading_digits}
use Rattle.images.proofs.longest_chain.Goals as goal

pub returns : goal.returns
returns c = rw (← c.max.ensures) (omega (arith, leading_digits 32 c.max.result))
