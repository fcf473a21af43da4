use mathlib.Core.Path.{sym, ◌∙◌}
use Rattle.std.proofs.lemmas.Result.{err_from_is_err_and}
use Rattle.leaves.specs.Text.{level-refused, level_other, level-missing, level_there}
use Rattle.leaves.proofs.read.level_at.Goals as goal

pub returns-then-n-size : goal.returns-then-n-size
returns-then-n-size c =
    let a = c.args in
    rw c.at.ensures (level_other a.file.now a.size a.at _ _ (sym c.in_ok-n.ensures) c.if-n-size.true)

pub returns-then-not-has_bytes : goal.returns-then-not-has_bytes
returns-then-not-has_bytes c =
    let a = c.args in
    rw c.at-then-not-has_bytes.ensures
    (level-missing a.file.now a.size a.at _ _ (sym c.in_ok-n.ensures) c.if-n-size.false (sym c.has_bytes.ensures ∙ c.if-not-has_bytes.true))

pub returns-in_err-n : goal.returns-in_err-n
returns-in_err-n c =
    let a = c.args in
    let p = err_from_is_err_and c.from_residual.result c.from_residual.ensures.1 in
    rw (p.1, p.2) (level-refused a.file.now a.size a.at (sym c.in_err-n.ensures))

pub returns : goal.returns
returns c =
    let a = c.args in
    level_there a.file.now a.size a.at _ _ (sym c.in_ok-n.ensures) c.if-n-size.false (sym c.has_bytes.ensures ∙ c.if-not-has_bytes.false)
