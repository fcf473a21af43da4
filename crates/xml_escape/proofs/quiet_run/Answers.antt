use Rattle.std.proofs.Common.{arith, rules}
use Rattle.xml_escape.specs.Runs.{passed_none, passed_more}
use Rattle.xml_escape.proofs.Quiets.{ends_at}
use Rattle.xml_escape.proofs.Cuts.{first_cut}
use Rattle.xml_escape.proofs.quiet_run.Goals as goal

pub returns-then-loud : goal.returns-then-loud
returns-then-loud c = ends_at (passed_none (search rules)) (λ h. c.loud.ensures.1 c.if-loud.true)

pub returns : goal.returns
returns c =
    let r = c.quiet_blocks-i.ensures (search rules) in
    let n = first_cut c.args.s.now c.quiet_blocks-i.result r.inside c.next_of.ensures in
    ends_at (passed_more r c.next_of.result (omega (arith, r.inside, n.within)) (λ k l. let q = n.before k l in search rules))
    (λ h q. let t = n.there (omega (arith, n.within)) in search rules)
