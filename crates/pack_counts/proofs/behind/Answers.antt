use Rattle.std.proofs.Common.{sym}
use Rattle.numbers.specs.Padded.{past}
use Rattle.pack_counts.proofs.behind.Goals as goal

pub returns-in-Err : goal.returns-in-Err
unfolding past
returns-in-Err c = rw (sym c.in-Err.ensures)

pub returns-in-Ok : goal.returns-in-Ok
unfolding past
returns-in-Ok c = rw (sym c.in-Ok.ensures)
