use Rattle.names.specs.Entries.{is_size}
use Rattle.enums.proofs.is_size.Goals as goal

pub returns : goal.returns
unfolding is_size
returns c = rw c.enum_kind.ensures
