-- `readers::up_to` meets its contract. Assumes nothing.
use mathlib.Core.Path.{sym, ap, ◌∙◌}
use Rattle.std.proofs.lemmas.Result.{err_from_is_err_and}
use Rattle.answers.specs.Told.{told}
use Rattle.readers.proofs.Parts.{up_to-refused, up_to-read, up_to-more}
use borrow.Author.Rules.{rules}
use Rattle.readers.proofs.up_to.Goals as goal

pub returns-in_err-number : goal.returns-in_err-number
returns-in_err-number c =
    let a = c.args in
    let p = err_from_is_err_and c.from_residual.result c.from_residual.ensures.1 in
    rw (p.1, p.2) (up_to-refused a.most a.file.now a.at (sym c.in_err-number.ensures))

pub returns-then-number-most : goal.returns-then-number-most
returns-then-number-most c =
    let a = c.args in
    up_to-read a.most a.file.now a.at (sym c.in_ok-number.ensures) c.if-number-most.true

pub returns : goal.returns
returns c =
    let a = c.args in
    rw c.at.ensures (up_to-more a.most a.file.now a.at (sym c.in_ok-number.ensures) c.if-number-most.false)
