use Rattle.fonts.specs.FontWords.{word_at, equal}
use Rattle.fonts.proofs.equal_counts.Goals as goal

pub returns : goal.returns
unfolding equal word_at
returns c = cc (c.word-2.ensures, c.word.ensures)
