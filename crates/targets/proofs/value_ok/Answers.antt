use Rattle.std.proofs.Common.{arith}
use Rattle.std.proofs.lemmas.Bool.Decides.{nat_tests}
use Rattle.targets.specs.Judge.{value_ok, listed_kind}
use Rattle.targets.proofs.value_ok.Goals as goal

pub returns-in-1-to-11 : goal.returns-in-1-to-11
unfolding value_ok listed_kind
returns-in-1-to-11 c = grind (arith, nat_tests)

pub returns-in-1-to-11-2 : goal.returns-in-1-to-11-2
unfolding value_ok listed_kind
returns-in-1-to-11-2 c = grind (arith, nat_tests)

pub returns-in-1-to-11-3 : goal.returns-in-1-to-11-3
unfolding value_ok listed_kind
returns-in-1-to-11-3 c = grind (arith, nat_tests)

pub returns-in_default : goal.returns-in_default
unfolding value_ok listed_kind
returns-in_default c = grind (arith, nat_tests)

pub returns-in_default-2 : goal.returns-in_default-2
unfolding value_ok listed_kind
returns-in_default-2 c = grind (arith, nat_tests)

pub returns-in_default-3 : goal.returns-in_default-3
unfolding value_ok listed_kind
returns-in_default-3 c = grind (arith, nat_tests)

pub returns-in_default-4 : goal.returns-in_default-4
unfolding value_ok listed_kind
returns-in_default-4 c = grind (arith, nat_tests)
