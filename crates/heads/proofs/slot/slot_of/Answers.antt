use Rattle.layout.specs.Fixed.{sizes}
use Rattle.heads.specs.Placed.{bytes_of, slot_by}
use Rattle.heads.proofs.slot.slot_of.Goals as goal

-- Object is a type of no size
pub returns-in-14 : goal.returns-in-14
unfolding slot_by bytes_of sizes
returns-in-14 c = rw (← c.kind_at-kind.ensures, c.in-14.is)
