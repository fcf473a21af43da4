use Rattle.key_order.specs.Texts.{key_text}
use Rattle.key_order.proofs.Keys.text.Goals as goal

pub returns : goal.returns
unfolding key_text
returns c = rw (← c.word-first.ensures, ← c.word-detail.ensures) c.row_text.ensures
