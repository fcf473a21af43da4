-- `names::texts::same_eight` meets its contract: eight bytes and their number tell each other. Assumes nothing.
use Rattle.names.proofs.Ends.{numbers_tell}
use Rattle.names.proofs.texts.same_eight.Goals as goal

pub returns : goal.returns
returns c = numbers_tell _ _ _ _ (c.told-a, c.fits-a) (c.told-b, c.fits-b) c.from_le_bytes.ensures c.from_le_bytes-2.ensures
