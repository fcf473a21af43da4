use Rattle.builder.proofs.Laws.{time-refused, time_at}
use borrow.Author.Rules.{rules}
use Rattle.builder.proofs.tell_time.Goals as goal

pub returns-in-Err : goal.returns-in-Err
returns-in-Err c = time-refused c.in-Err.is

pub returns-in-Ok : goal.returns-in-Ok
returns-in-Ok c = time_at c.in-Ok.is (record { sfits = c.struct_told-1.given.0.1 })
