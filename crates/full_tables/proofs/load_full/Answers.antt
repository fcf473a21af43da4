use lib.ListN.{length}
use borrow.Author.Rules.{rules}
use Rattle.full_tables.proofs.Laws.{load_full}
use Rattle.full_tables.proofs.load_full.Goals as goal

pub returns : goal.returns
returns c =
    let a = c.args in
    record { full = load_full a.enums.now a.file.now (length a.words.now) c.load.ensures.value c.load.ensures.words_after; value = c.load.ensures.value }
