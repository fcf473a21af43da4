use Rattle.std.proofs.Common.{sym, ap, ◌∙◌}
use Rattle.answers.specs.Told.{told}
use Rattle.key_order.specs.Behind.{counted-refused, counted-read}
use Rattle.key_order.proofs.texts.counted.Goals as goal

pub returns-in-Err : goal.returns-in-Err
returns-in-Err c = let a = c.args in counted-refused a.file.now a.at (sym c.seven_at.ensures ∙ ap told c.in-Err.is) c.bytes_from.ensures

pub returns-in-Ok : goal.returns-in-Ok
returns-in-Ok c = let a = c.args in counted-read a.file.now a.at (sym c.seven_at.ensures ∙ ap told c.in-Ok.is) c.bytes_from-in-Ok.ensures
