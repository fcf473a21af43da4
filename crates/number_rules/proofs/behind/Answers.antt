use Rattle.std.proofs.Common.{sym, ap, ◌∙◌}
use Rattle.answers.specs.Told.{told}
use Rattle.number_rules.specs.Entries.{past-refused, past-read}
use Rattle.number_rules.proofs.behind.Goals as goal

pub returns-in-Err : goal.returns-in-Err
returns-in-Err c = let a = c.args in past-refused a.file.now a.at (sym c.seven_at.ensures ∙ ap told c.in-Err.is)

pub returns-in-Ok : goal.returns-in-Ok
returns-in-Ok c = let a = c.args in past-read a.file.now a.at (sym c.seven_at.ensures ∙ ap told c.in-Ok.is)
