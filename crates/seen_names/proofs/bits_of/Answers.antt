use Rattle.seen_names.specs.Seen.{bits_of}
use Rattle.seen_names.proofs.bits_of.Goals as goal

pub returns : goal.returns
unfolding bits_of
returns c = rw (c.bit.ensures, c.bit-2.ensures, c.bit-3.ensures, c.bit-4.ensures)
