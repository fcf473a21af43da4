use Rattle.std.proofs.Common.{arith}
use Rattle.std.proofs.lemmas.Bool.Decides.{nat_tests}
use Rattle.targets.specs.Judge.{head_ok, listed_kind}
use Rattle.std.proofs.Common.{lt-ltb}
use Rattle.targets.proofs.head_ok.Goals as goal

pub returns-then-b-lt-ENUM_OF_1 : goal.returns-then-b-lt-ENUM_OF_1
unfolding head_ok
returns-then-b-lt-ENUM_OF_1 c = rw (lt-ltb _ _ c.if-b-lt-ENUM_OF_1.true) c.plain_ok.ensures

pub returns-then-b-le-ENUM_OF_8 : goal.returns-then-b-le-ENUM_OF_8
unfolding head_ok listed_kind
returns-then-b-le-ENUM_OF_8 c = grind (arith, nat_tests)

pub returns-in-80 : goal.returns-in-80
unfolding head_ok listed_kind
returns-in-80 c = grind (arith, nat_tests)

pub returns-in_default : goal.returns-in_default
unfolding head_ok listed_kind
returns-in_default c = grind (arith, nat_tests)
