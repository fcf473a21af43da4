use mathlib.Core.Path.{sym, ◌∙◌}
use Rattle.fields.specs.Ruled.{data_missing, data_there}
use Rattle.fields.proofs.data_at.Goals as goal

pub returns-then-not-has_bytes : goal.returns-then-not-has_bytes
returns-then-not-has_bytes c =
    let a = c.args in
    rw c.at.ensures (data_missing a.file.now a.size a.at (sym c.has_bytes.ensures ∙ c.if-not-has_bytes.true))

pub returns : goal.returns
returns c =
    let a = c.args in
    data_there a.file.now a.size a.at (sym c.has_bytes.ensures ∙ c.if-not-has_bytes.false)
