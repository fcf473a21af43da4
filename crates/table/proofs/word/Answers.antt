use Rattle.std.proofs.Common.{refl}
use Rattle.table.specs.Word.{in_word}
use Rattle.table.proofs.word.Goals as goal

pub returns : goal.returns
unfolding in_word
returns c = refl
