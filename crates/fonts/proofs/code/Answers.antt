use Rattle.std.proofs.Common.{sym, ap, ◌∙◌}
use Rattle.answers.specs.Told.{told}
use Rattle.reading.specs.Walk.{value_or}
use Rattle.fonts.specs.FontWords.{word_at}
use Rattle.fonts.proofs.Laws.{code_of}
use Rattle.fonts.proofs.code.Goals as goal

pub returns-in-Err : goal.returns-in-Err
unfolding value_or word_at
returns-in-Err c = code_of _ _ _ _ (sym (ap told c.in-Err.is) ∙ c.char_at.ensures) c.word-first.ensures

pub returns-in-Ok : goal.returns-in-Ok
unfolding value_or word_at
returns-in-Ok c = code_of _ _ _ _ (sym (ap told c.in-Ok.is) ∙ c.char_at.ensures) c.word-first.ensures
