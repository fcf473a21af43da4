use Rattle.lookups.proofs.Spans.{no_bytes, found_bytes}
use Rattle.lookups.proofs.bytes_of.Goals as goal

pub returns-in-Err : goal.returns-in-Err
returns-in-Err c = no_bytes _ c.in-Err.is

pub returns-in-Ok : goal.returns-in-Ok
returns-in-Ok c = found_bytes _ c.in-Ok.is
