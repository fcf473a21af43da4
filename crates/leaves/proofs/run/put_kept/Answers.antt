use mathlib.Core.Path.{sym, ◌∙◌}
use native.Mathlib.Omega.{arith}
use Rattle.leaves.specs.Same.{rows_fit}
use Rattle.leaves.proofs.run.put_kept.Goals as goal

pub returns-clause-kept : goal.returns-clause-kept
returns-clause-kept c =
    let k = c.all_kept.ensures c.if-not-all_kept.false in
    λ e. (k.0, rows_fit _ _ _ _ (sym c.put_run.ensures.value ∙ e), omega (arith, c.if-depth-eq0.false), k.1)
