use native.Mathlib.Omega.{arith}
use Rattle.lookups.proofs.Signs.{low_is, high_is}
use Rattle.lookups.proofs.twos_complement.Goals as goal

pub returns-then-value-top : goal.returns-then-value-top
returns-then-value-top c = low_is c.args.top c.args.value (omega arith) c.if-value-top.true

pub returns : goal.returns
returns c = high_is c.args.top c.args.value (omega arith) c.if-value-top.false
