use Rattle.std.specs.Prelude.{ℕ, set}
use Rattle.std.proofs.Common.{ap, ◌∙◌}
use Rattle.pack_counts.specs.Raise.{past_word, set_word}
use Rattle.pack_counts.proofs.raise.Goals as goal

pub returns-then-at-figures : goal.returns-then-at-figures
returns-then-at-figures c =
    let a = c.args in
    ap (λ (v : ℕ). set a.figures.now a.at v) c.up_to.ensures ∙ set_word a.at a.by a.figures.now c.if-at-figures.true

pub returns-else-at-figures : goal.returns-else-at-figures
returns-else-at-figures c = past_word c.args.at c.args.by c.args.figures.now c.if-at-figures.false
