use Rattle.std.proofs.Common.{arith}
use Rattle.std.proofs.lemmas.Bool.Decides.{nat_tests}
use Rattle.layout.specs.Name.{head_byte}
use Rattle.names.proofs.bytes.head_byte.Goals as goal

pub returns-then-is_ascii_alphanumeric : goal.returns-then-is_ascii_alphanumeric
unfolding head_byte
returns-then-is_ascii_alphanumeric c = grind (arith, nat_tests)

pub returns-in-46 : goal.returns-in-46
unfolding head_byte
returns-in-46 c = grind (arith, nat_tests)

pub returns-in_default : goal.returns-in_default
unfolding head_byte
returns-in_default c = grind (arith, nat_tests)
