use Rattle.std.proofs.Common.{arith, rules}
use Rattle.xml_escape.proofs.Cuts.{block_cut, block_fits}
use Rattle.xml_import.proofs.Usual.{quiet_first, ran_by, ran_past}
use Rattle.xml_import.proofs.standing.usual_run.Goals as goal

pub returns-then-n-lt8 : goal.returns-then-n-lt8
returns-then-n-lt8 c =
    let f = block_fits c.args.xml.now c.args.from c.requires c.in-Some.ensures.cases in
    let b = block_cut c.args.xml.now c.args.from c.requires c.in-Some.ensures.cases (omega arith) c.next_of-n.ensures in
    ran_by (quiet_first b (λ b q. search rules)).1 (omega (arith, f, c.if-n-lt8.true))

pub returns : goal.returns
returns c =
    let f = block_fits c.args.xml.now c.args.from c.requires c.in-Some.ensures.cases in
    let b = block_cut c.args.xml.now c.args.from c.requires c.in-Some.ensures.cases (omega arith) c.next_of-n.ensures in
    ran_past (quiet_first b (λ b q. search rules)) c.if-n-lt8.false f c.usual_rest.ensures
