use Rattle.fonts.specs.FontWords.{word_at, row_after}
use Rattle.fonts.proofs.row_after.Goals as goal

pub returns : goal.returns
unfolding row_after word_at
returns c = cc (c.row_beyond.ensures, c.word.ensures)
