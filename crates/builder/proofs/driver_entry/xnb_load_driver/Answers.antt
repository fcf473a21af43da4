use borrow.Author.Rules.{rules}
use Rattle.builder.proofs.driver_entry.xnb_load_driver.Goals as goal

pub returns : goal.returns
returns c =
    record { padding_after = c.tell_load.ensures _ _ c.load_driver-loading.ensures.value; words_after = c.load_driver-loading.ensures.words_after }
