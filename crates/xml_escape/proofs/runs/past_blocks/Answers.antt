use Rattle.std.proofs.Common.{arith, refl}
use Rattle.xml_escape.specs.Runs.{passed_more}
use Rattle.xml_escape.proofs.runs.past_blocks.Goals as goal

pub loop-i-preserved : goal.loop-i-preserved
loop-i-preserved g c = passed_more c.loop-i.invariant 32 (omega arith) (c.if-not-none_of.ensures refl)
