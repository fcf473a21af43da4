use Rattle.std.proofs.Common.{arith}
use Rattle.std.proofs.lemmas.Bool.Decides.{nat_tests}
use Rattle.layout.specs.Name.{tail_byte}
use Rattle.names.proofs.bytes.tail_byte.Goals as goal

pub returns-after-matches : goal.returns-after-matches
unfolding tail_byte
returns-after-matches c = grind (arith, nat_tests)

pub returns-else-matches : goal.returns-else-matches
unfolding tail_byte
returns-else-matches c = grind (arith, nat_tests)
