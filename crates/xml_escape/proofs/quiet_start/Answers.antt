use Rattle.std.proofs.Common.{refl, arith, rules}
use Rattle.xml_escape.proofs.Cuts.{block_cut}
use Rattle.xml_escape.proofs.quiet_start.Goals as goal

pub returns : goal.returns
returns c = λ k h. let q = (block_cut c.args.s.now c.args.i (omega arith) c.in-Some.ensures.cases refl c.first_of.ensures).before k h in search rules
