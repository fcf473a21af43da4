use mathlib.Core.Bool.{◌||◌}
use Rattle.laws.specs.Small.{neither}
use Rattle.text.proofs.Windows.{three_first}
use Rattle.text.proofs.misfits.Goals as goal

pub returns : goal.returns
returns c =
    let a = c.args in
    λ e.
    let p = neither (c.wrong.result || c.wrong-2.result) c.wrong-3.result e in
    let q = neither c.wrong.result c.wrong-2.result p.0 in
    three_first a.s.now a.at c.requires (c.wrong.ensures q.0) (c.wrong-2.ensures q.1) (c.wrong-3.ensures p.1)
