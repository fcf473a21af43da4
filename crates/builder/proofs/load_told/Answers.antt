use borrow.Author.Rules.{rules}
use Rattle.builder.proofs.load_told.Goals as goal

pub returns : goal.returns
returns c = record { padding_after = c.tell_load.ensures _ _ c.load_in-loading.ensures.value; words_after = c.load_in-loading.ensures.words_after }
