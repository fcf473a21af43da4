use Rattle.fonts.specs.FontWords.{all_equal}
use Rattle.fonts.proofs.Laws.{no, yes}
use Rattle.fonts.proofs.all_equal.Goals as goal

pub returns-then-not-equal_counts : goal.returns-then-not-equal_counts
unfolding all_equal
returns-then-not-equal_counts c = no _ c.equal_counts.ensures c.if-not-equal_counts.true-raw

pub returns-then-not-equal_counts-2 : goal.returns-then-not-equal_counts-2
unfolding all_equal
returns-then-not-equal_counts-2 c = yes c.equal_counts.ensures c.if-not-equal_counts.false-raw (no _ c.equal_counts-2.ensures c.if-not-equal_counts-2.true-raw)

pub returns : goal.returns
unfolding all_equal
returns c =
    yes c.equal_counts.ensures c.if-not-equal_counts.false-raw (yes c.equal_counts-2.ensures c.if-not-equal_counts-2.false-raw c.equal_counts-3.ensures)
