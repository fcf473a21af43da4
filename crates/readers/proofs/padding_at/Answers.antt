-- `readers::padding_at` meets its contract. Assumes nothing.
use mathlib.Core.Path.{sym, ap, ◌∙◌}
use Rattle.reading.specs.Seven.{seven_at}
use Rattle.numbers.specs.Padded.{pad_of, told_padded, number_read, number-refused}
use borrow.Author.Rules.{rules}
use Rattle.readers.proofs.padding_at.Goals as goal

pub returns-in-Err : goal.returns-in-Err
unfolding pad_of
returns-in-Err c =
    let a = c.args in
    rw (number-refused a.at (seven_at a.file.now a.at) (sym (ap told_padded c.in-Err.is) ∙ c.seven_padded.ensures))

pub returns-in-Ok : goal.returns-in-Ok
returns-in-Ok c =
    let a = c.args in
    (number_read a.at (seven_at a.file.now a.at) (sym (ap told_padded c.in-Ok.is) ∙ c.seven_padded.ensures)).1
