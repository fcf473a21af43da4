use Rattle.builder.proofs.Laws.{span-refused, span_found}
use borrow.Author.Rules.{rules}
use Rattle.builder.proofs.tell_span.Goals as goal

pub returns-in-Err : goal.returns-in-Err
returns-in-Err c = span-refused c.in-Err.is

pub returns-in-Ok : goal.returns-in-Ok
returns-in-Ok c = span_found c.in-Ok.is
