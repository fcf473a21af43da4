use Rattle.std.proofs.Common.{refl, arith, rules, ◌≡◌, ◌+◌, ◌-◌}
use Rattle.xml_escape.specs.Runs.{AllOf, passed_none, passed_more, passed_as}
use Rattle.xml_escape.proofs.Cuts.{passed_cut, block_cut, block_fits}
use Rattle.xml_export.specs.Escaping.{Alone, Runs}
use Rattle.xml_export.proofs.Escapes.{copy_run}
use Rattle.xml_export.proofs.escape.put_far.Goals as goal

pub returns-then-n-lt32 : goal.returns-then-n-lt32
returns-then-n-lt32 c =
    let a' = c.args in
    let n = c.first_of-n.result in
    let i = block_fits a'.text.now a'.from c.requires.0 c.in-Some.ensures.cases in
    let b = block_cut a'.text.now a'.from c.requires.0 c.in-Some.ensures.cases refl c.first_of-n.ensures in
    let f : AllOf Alone a'.text.now a'.from n = λ k h. let q = b.before k h in search rules in
    let r : Runs a'.text.now a'.from (a'.from + n) = passed_more (passed_none c.requires.0) n (omega (arith, i, b.within)) f in
    let z : a'.from + n - a'.from ≡ n = omega arith in
    record { runs = r; put = rw z c.put_near.ensures }

pub returns : goal.returns
returns c =
    let a' = c.args in
    let to = a'.from + 32 + c.past_blocks.result in
    let i = block_fits a'.text.now a'.from c.requires.0 c.in-Some.ensures.cases in
    let b = block_cut a'.text.now a'.from c.requires.0 c.in-Some.ensures.cases refl c.first_of-n.ensures in
    let z : c.first_of-n.result ≡ 32 = omega (arith, b.within, c.if-n-lt32.false) in
    let f : AllOf Alone a'.text.now a'.from c.first_of-n.result = λ k h. let q = b.before k h in search rules in
    let r : Runs a'.text.now a'.from (a'.from + 32) = passed_more (passed_none c.requires.0) 32 i (rw z at f) in
    let p : Runs a'.text.now (a'.from + 32) to = passed_as (passed_cut a'.text.now (a'.from + 32) i c.past_blocks.ensures) (λ b q. search rules) in
    let y : a'.from + 32 + (to - (a'.from + 32)) ≡ to = omega (arith, p.forward) in
    copy_run (rw y at (passed_more r (to - (a'.from + 32)) (omega (arith, p.forward, p.inside)) p.all)) c.copy.ensures.out_after
