-- `readers::versioned` meets its contract. Assumes nothing.
use mathlib.Core.Path.{sym, ap, ◌∙◌}
use Rattle.std.proofs.lemmas.Result.{err_from_is_err_and}
use Rattle.readers.specs.Parts.{end_of}
use borrow.Author.Rules.{rules}
use Rattle.readers.proofs.versioned.Goals as goal

pub returns-in_err-version : goal.returns-in_err-version
returns-in_err-version c =
    let a = c.args in
    let p = err_from_is_err_and c.from_residual.result c.from_residual.ensures.1 in
    rw (p.1, p.2) (ap (end_of a.first a.end) c.in_err-version.ensures)

pub returns : goal.returns
returns c =
    let a = c.args in
    ap (end_of a.first a.end) c.in_ok-version.ensures
