use native.Mathlib.Omega.{arith}
use Rattle.layout.specs.Table.{room_of}
use Rattle.load_part.specs.Part.{first_words}
use Rattle.load_part.proofs.first_words.Goals as goal

pub returns : goal.returns
unfolding first_words room_of
returns c = (omega (arith, c.room-room.ensures, c.min.ensures), omega (arith, c.room-room.ensures, c.min.ensures))
