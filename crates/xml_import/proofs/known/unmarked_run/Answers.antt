use Rattle.std.proofs.Common.{arith, rules}
use Rattle.xml_escape.specs.Runs.{first_as}
use Rattle.xml_escape.proofs.Cuts.{block_cut, block_fits}
use Rattle.xml_import.proofs.Marks.{stops_by, stops_on}
use Rattle.xml_import.proofs.known.unmarked_run.Goals as goal

pub returns-then-n-lt8 : goal.returns-then-n-lt8
returns-then-n-lt8 c =
    let b = block_cut c.args.xml.now c.args.from c.requires c.in-Some.ensures.cases (omega arith) c.next_of-n.ensures in
    stops_by (first_as b (λ b q. search rules) (λ b q. search rules)) c.if-n-lt8.true (block_fits c.args.xml.now c.args.from c.requires c.in-Some.ensures.cases)

pub returns : goal.returns
returns c =
    let b = block_cut c.args.xml.now c.args.from c.requires c.in-Some.ensures.cases (omega arith) c.next_of-n.ensures in
    stops_on (first_as b (λ b q. search rules) (λ b q. search rules)) c.if-n-lt8.false (block_fits c.args.xml.now c.args.from c.requires c.in-Some.ensures.cases) c.unmarked_rest.ensures
