use Rattle.table.specs.Word.{in_word}
use Rattle.fonts.specs.FontWords.{beyond}
use Rattle.std.proofs.Common.{refl}
use Rattle.fonts.proofs.row_beyond.Goals as goal

pub returns : goal.returns
unfolding beyond in_word
returns c = refl
