use Rattle.std.proofs.Common.{arith}
use Rattle.layout.specs.Table.{room_of}
use Rattle.table.proofs.room.Goals as goal

pub returns : goal.returns
unfolding room_of
returns c = omega arith
