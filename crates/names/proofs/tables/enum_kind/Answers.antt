use Rattle.std.proofs.Common.{arith}
use Rattle.std.proofs.lemmas.Bool.Decides.{nat_tests}
use Rattle.names.specs.Kind.{enum_kind}
use Rattle.names.proofs.tables.enum_kind.Goals as goal

pub returns-in-1 : goal.returns-in-1
unfolding enum_kind
returns-in-1 c = rw c.in-1.is

pub returns-in-2 : goal.returns-in-2
unfolding enum_kind
returns-in-2 c = rw c.in-2.is

pub returns-in-4 : goal.returns-in-4
unfolding enum_kind
returns-in-4 c = rw c.in-4.is

pub returns-in-8 : goal.returns-in-8
unfolding enum_kind
returns-in-8 c = rw c.in-8.is

pub returns-in_default : goal.returns-in_default
unfolding enum_kind
returns-in_default c = grind (arith, nat_tests)
