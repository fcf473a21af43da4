use Rattle.std.proofs.Common.{◌+◌, refl, rules}
use Rattle.xml_escape.specs.Runs.{passed_as, first_as}
use Rattle.xml_escape.proofs.Cuts.{passed_cut, first_cut, block_cut, block_fits}
use Rattle.xml_import.proofs.Marks.{stops_past, stops_here}
use Rattle.xml_import.proofs.known.unmarked_far.Goals as goal

pub returns-then-n-lt64 : goal.returns-then-n-lt64
returns-then-n-lt64 c =
    let s = c.args.xml.now in
    let p = passed_cut s c.args.from c.requires c.past_blocks.ensures in
    let b = block_cut s (c.args.from + c.past_blocks.result) p.inside c.in-Some.ensures.cases refl c.first_of-n.ensures in
    stops_past (passed_as p (λ b q. search rules)) (first_as b (λ b q. search rules) (λ b q. search rules)) c.if-n-lt64.true (block_fits s (c.args.from + c.past_blocks.result) p.inside c.in-Some.ensures.cases)

pub returns : goal.returns
returns c =
    let s = c.args.xml.now in
    let p = passed_cut s c.args.from c.requires c.past_blocks.ensures in
    let b = first_cut s (c.args.from + c.past_blocks.result) p.inside c.next_of.ensures in
    stops_here (passed_as p (λ b q. search rules)) (first_as b (λ b q. search rules) (λ b q. search rules))
