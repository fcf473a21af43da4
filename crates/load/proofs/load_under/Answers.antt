use mathlib.Core.Path.{refl, sym, ◌∙◌}
use native.Mathlib.Omega.{arith}
use Rattle.std.proofs.lemmas.Result.{err_from_is_err_and}
use Rattle.load.specs.Under.{refused-list, lawful-list}
use Rattle.load.proofs.load_under.Goals as goal

pub returns-in_err-judge : goal.returns-in_err-judge
returns-in_err-judge c =
    let a = c.args in
    let p = err_from_is_err_and c.from_residual.result c.from_residual.ensures.1 in
    rw (p.1, p.2, refused-list a.enums.now a.file.now a.grid.room (sym c.in_err-judge.was ∙ c.judge.ensures)) refl

pub returns : goal.returns
returns c =
    let a = c.args in
    rw (lawful-list a.enums.now a.file.now a.grid.room (λ i h. omega (arith, c.type_inv.enums i)) (sym c.in_ok-judge.was ∙ c.judge.ensures))
    c.load_rows.ensures
