use Rattle.std.proofs.Common.{◌∙◌}
use Rattle.pack_counts.specs.Count.{refusal-counted, refusal_uncounted}
use Rattle.pack_counts.proofs.count_refused.Goals as goal

pub returns-then-number-lt64 : goal.returns-then-number-lt64
returns-then-number-lt64 c =
    let a = c.args in
    rw c.raise.ensures at c.raise-then-number-lt64.ensures ∙ refusal-counted a.number c.if-number-lt64.true a.figures.now

pub returns-else-number-lt64 : goal.returns-else-number-lt64
returns-else-number-lt64 c = c.raise.ensures ∙ refusal_uncounted c.args.number c.if-number-lt64.false c.args.figures.now
