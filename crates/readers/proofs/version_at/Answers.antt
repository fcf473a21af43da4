-- `readers::version_at` meets its contract. Assumes nothing.
use mathlib.Core.Path.{sym, ap, ◌∙◌}
use Rattle.std.proofs.lemmas.Result.{err_from_is_err_and}
use Rattle.answers.specs.Told.{told}
use Rattle.readers.proofs.Parts.{version_refused, version_read, version_other}
use borrow.Author.Rules.{rules}
use Rattle.readers.proofs.version_at.Goals as goal

pub returns-in_err-version : goal.returns-in_err-version
returns-in_err-version c =
    let a = c.args in
    let p = err_from_is_err_and c.from_residual.result c.from_residual.ensures.1 in
    rw (p.1, p.2) (version_refused a.file.now a.at (sym c.in_err-version.ensures))

pub returns-then-version-ne0 : goal.returns-then-version-ne0
returns-then-version-ne0 c =
    let a = c.args in
    rw c.at.ensures (version_other a.file.now a.at (sym c.in_ok-version.ensures) c.if-version-ne0.true)

pub returns : goal.returns
returns c =
    let a = c.args in
    version_read a.file.now a.at (sym c.in_ok-version.ensures) c.if-version-ne0.false
