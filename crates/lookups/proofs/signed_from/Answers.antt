use native.Mathlib.Omega.{arith}
use Rattle.answers.specs.Told.{told}
use Rattle.lookups.specs.Signs.{signed_from}
use Rattle.lookups.proofs.Signs.{from_number}
use mathlib.Core.Path.{ap}
use Rattle.lookups.proofs.signed_from.Goals as goal

pub returns-in-Err : goal.returns-in-Err
unfolding signed_from
returns-in-Err c = rw (c.at.ensures, c.in-Err.is)

pub returns-in-Ok : goal.returns-in-Ok
returns-in-Ok c = from_number c.args.top c.args.row _ _ (omega arith) c.twos_complement.ensures (ap told c.in-Ok.is)
