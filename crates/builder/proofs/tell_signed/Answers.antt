use Rattle.builder.proofs.Laws.{signed_refused, signed_number}
use borrow.Author.Rules.{rules}
use Rattle.builder.proofs.tell_signed.Goals as goal

pub returns-in-Err : goal.returns-in-Err
returns-in-Err c = signed_refused c.in-Err.is

pub returns-in-Ok : goal.returns-in-Ok
returns-in-Ok c = signed_number c.in-Ok.is (record { sfits = c.in-Ok.known_told-in-Ok-1-own.given.0.1 })
