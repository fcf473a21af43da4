use Rattle.std.proofs.Common.{refl, arith, rules, ◌≤◌}
use Rattle.xml_escape.specs.Quiet.{AllQuiet}
use Rattle.xml_escape.proofs.Cuts.{block_cut, block_fits}
use Rattle.xml_import.proofs.Usual.{quiet_first, ran_by, ran_on, ran_past}
use Rattle.xml_import.proofs.standing.usual_rest.Goals as goal

pub returns-then-n-lt32 : goal.returns-then-n-lt32
returns-then-n-lt32 c =
    let f = block_fits c.args.xml.now c.args.from c.requires c.in-Some.ensures.cases in
    let b = block_cut c.args.xml.now c.args.from c.requires c.in-Some.ensures.cases refl c.first_of-n.ensures in
    ran_by (quiet_first b (λ b q. search rules)).1 (omega (arith, f, c.if-n-lt32.true))

pub returns-in_default-first_chunk : goal.returns-in_default-first_chunk
returns-in_default-first_chunk c =
    let f = block_fits c.args.xml.now c.args.from c.requires c.in-Some.ensures.cases in
    let n = block_cut c.args.xml.now c.args.from c.requires c.in-Some.ensures.cases refl c.first_of-n.ensures in
    let b = c.quiet_blocks-i.ensures f in
    ran_past (quiet_first n (λ b q. search rules)) c.if-n-lt32.false f (ran_on b (c.quiet_run-in_default-first_chunk.ensures.run b.inside))

pub returns : goal.returns
returns c =
    let s = c.args.xml.now in
    let i = c.quiet_blocks-i.result in
    let f = block_fits s c.args.from c.requires c.in-Some.ensures.cases in
    let n = block_cut s c.args.from c.requires c.in-Some.ensures.cases refl c.first_of-n.ensures in
    let b = c.quiet_blocks-i.ensures f in
    let g = block_fits s i b.inside c.in-Some-first_chunk.ensures.cases in
    let m = block_cut s i b.inside c.in-Some-first_chunk.ensures.cases refl c.first_of.ensures in
    let a : (c.first_of.result ≤ 32) × AllQuiet 0x7F s i c.first_of.result = quiet_first m (λ b q. search rules) in
    ran_past (quiet_first n (λ b q. search rules)) c.if-n-lt32.false f (ran_on b (ran_by a.1 (omega (arith, g, a.0))))
