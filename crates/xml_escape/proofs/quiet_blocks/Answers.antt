use Rattle.std.proofs.Common.{arith, rules}
use Rattle.xml_escape.specs.Runs.{passed_as}
use Rattle.xml_escape.proofs.Cuts.{passed_cut}
use Rattle.xml_escape.proofs.quiet_blocks.Goals as goal

pub returns : goal.returns
returns c = λ h. passed_as (passed_cut c.args.s.now c.args.from (omega arith) c.past_blocks.ensures) (λ b q. search rules)
