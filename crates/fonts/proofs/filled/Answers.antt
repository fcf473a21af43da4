use Rattle.fonts.specs.FontWords.{word_at, some}
use Rattle.fonts.proofs.filled.Goals as goal

pub returns : goal.returns
unfolding some word_at
returns c = cc c.word.ensures
