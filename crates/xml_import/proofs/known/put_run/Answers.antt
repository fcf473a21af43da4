use Rattle.std.proofs.Common.{◌+◌, ◌-◌, arith, rules}
use Rattle.xml_escape.specs.Runs.{first_as}
use Rattle.xml_escape.proofs.Cuts.{block_fits, block_is}
use Rattle.xml_escape.proofs.Puts.{put_start}
use Rattle.xml_import.proofs.Puts.{few_put, start-put}
use Rattle.xml_import.proofs.known.put_run.Goals as goal

pub returns-then-n-lt8 : goal.returns-then-n-lt8
returns-then-n-lt8 c =
    let a = c.args in
    let f = block_fits a.xml.now a.at c.requires.0 c.in-Some.ensures.cases in
    let e = block_is a.xml.now a.at c.requires.0 c.in-Some.ensures.cases in
    let v = put_start a.xml.now a.at 8 f e a.out.now a.to (a.to + 8 - a.to) (omega arith) (omega (arith, c.requires.1, c.if-out-to-lt8.false)) c.put_before-n.ensures.found c.put_before-n.ensures.out_after in
    few_put (first_as v.0 (λ b q. search rules) (λ b q. search rules)) v.1 c.if-n-lt8.true f

pub returns : goal.returns
returns c =
    let a = c.args in
    let f = block_fits a.xml.now a.at c.requires.0 c.in-Some.ensures.cases in
    let e = block_is a.xml.now a.at c.requires.0 c.in-Some.ensures.cases in
    let v = put_start a.xml.now a.at 8 f e a.out.now a.to (a.to + 8 - a.to) (omega arith) (omega (arith, c.requires.1, c.if-out-to-lt8.false)) c.put_before-n.ensures.found c.put_before-n.ensures.out_after in
    start-put (first_as v.0 (λ b q. search rules) (λ b q. search rules)) v.1 c.if-n-lt8.false f c.put_far-2.ensures
