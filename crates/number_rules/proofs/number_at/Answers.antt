use Rattle.std.proofs.Common.{sym, ap, ◌∙◌}
use Rattle.reading.specs.Seven.{seven_at}
use Rattle.numbers.specs.Padded.{told_padded, number_read, number-refused}
use Rattle.number_rules.specs.Numbers.{number-missing, number_short, number-long}
use Rattle.number_rules.proofs.number_at.Goals as goal

pub returns-then-number-eq0 : goal.returns-then-number-eq0
returns-then-number-eq0 c =
    let a = c.args in
    number_short a.file.now a.at (number_read a.at (seven_at a.file.now a.at) (sym (ap told_padded c.in-Ok.is) ∙ c.seven_padded.ensures)).1 c.if-number-eq0.true

pub returns-in-Err : goal.returns-in-Err
returns-in-Err c =
    let a = c.args in number-missing a.file.now a.at (number-refused a.at (seven_at a.file.now a.at) (sym (ap told_padded c.in-Err.is) ∙ c.seven_padded.ensures))

pub returns-else-number-eq0 : goal.returns-else-number-eq0
returns-else-number-eq0 c =
    let a = c.args in
    number-long a.file.now a.at (number_read a.at (seven_at a.file.now a.at) (sym (ap told_padded c.in-Ok.is) ∙ c.seven_padded.ensures)).1 c.if-number-eq0.false
