use Rattle.std.proofs.Common.{sym}
use Rattle.numbers.specs.Padded.{number_of}
use Rattle.pack_counts.proofs.number_at.Goals as goal

pub returns-in-Err : goal.returns-in-Err
unfolding number_of
returns-in-Err c = rw (sym c.in-Err.ensures)

pub returns-in-Ok : goal.returns-in-Ok
unfolding number_of
returns-in-Ok c = rw (sym c.in-Ok.ensures)
