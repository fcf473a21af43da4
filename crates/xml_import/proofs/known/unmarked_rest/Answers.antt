use Rattle.std.proofs.Common.{refl, rules}
use Rattle.xml_escape.specs.Runs.{first_as}
use Rattle.xml_escape.proofs.Cuts.{block_cut, block_fits}
use Rattle.xml_import.proofs.Marks.{stops_by, stops_on}
use Rattle.xml_import.proofs.known.unmarked_rest.Goals as goal

pub returns-then-n-lt64 : goal.returns-then-n-lt64
returns-then-n-lt64 c =
    let b = block_cut c.args.xml.now c.args.from c.requires c.in-Some.ensures.cases refl c.first_of-n.ensures in
    stops_by (first_as b (λ b q. search rules) (λ b q. search rules)) c.if-n-lt64.true (block_fits c.args.xml.now c.args.from c.requires c.in-Some.ensures.cases)

pub returns : goal.returns
returns c =
    let b = block_cut c.args.xml.now c.args.from c.requires c.in-Some.ensures.cases refl c.first_of-n.ensures in
    stops_on (first_as b (λ b q. search rules) (λ b q. search rules)) c.if-n-lt64.false (block_fits c.args.xml.now c.args.from c.requires c.in-Some.ensures.cases) c.unmarked_far-2.ensures
