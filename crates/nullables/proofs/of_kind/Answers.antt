use Rattle.std.proofs.Common.{refl, arith}
use Rattle.nullables.specs.Placed.{free, boolean, character}
use Rattle.nullables.proofs.of_kind.Goals as goal

pub list_of-requires : goal.list_of-requires
list_of-requires c = (omega arith, boolean c.in-11.is (omega arith) refl)

pub list_of-requires-in-12 : goal.list_of-requires-in-12
list_of-requires-in-12 c = (omega arith, character c.in-12.is (omega arith) refl)

pub list_of-requires-in_default : goal.list_of-requires-in_default
list_of-requires-in_default c =
    (omega arith, free (λ e. omega arith) (λ e. omega arith) (λ e. omega arith) (λ e. omega arith))
