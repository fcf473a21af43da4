use Rattle.std.proofs.Common.{◌+◌, ◌-◌, length, refl, arith, rules}
use Rattle.xml_escape.specs.Runs.{first_as}
use Rattle.xml_escape.proofs.Cuts.{block_fits, block_is}
use Rattle.xml_escape.proofs.Puts.{put_start}
use Rattle.xml_export.proofs.Escapes.{few_run, run_on}
use Rattle.xml_export.proofs.escape.put_run.Goals as goal

pub returns-in_default : goal.returns-in_default
returns-in_default c =
    let a = c.args in
    let n = length a.text.now - a.from in
    let v = put_start a.text.now a.from n (omega (arith, c.requires.0)) refl a.out.now a.to (a.to + n - a.to) (omega arith) c.requires.1 c.put_before.ensures.found c.put_before.ensures.out_after in
    few_run (first_as v.0 (λ b q. search rules) (λ b q. q)) v.1 (omega (arith, c.requires.0))

pub returns-then-n-lt8 : goal.returns-then-n-lt8
returns-then-n-lt8 c =
    let a = c.args in
    let f = block_fits a.text.now a.from c.requires.0 c.in-Some.ensures.cases in
    let e = block_is a.text.now a.from c.requires.0 c.in-Some.ensures.cases in
    let v = put_start a.text.now a.from 8 f e a.out.now a.to (a.to + 8 - a.to) (omega arith) (omega (arith, c.requires.1, f)) c.put_before-n.ensures.found c.put_before-n.ensures.out_after in
    few_run (first_as v.0 (λ b q. search rules) (λ b q. q)) v.1 f

pub returns : goal.returns
returns c =
    let a = c.args in
    let f = block_fits a.text.now a.from c.requires.0 c.in-Some.ensures.cases in
    let e = block_is a.text.now a.from c.requires.0 c.in-Some.ensures.cases in
    let v = put_start a.text.now a.from 8 f e a.out.now a.to (a.to + 8 - a.to) (omega arith) (omega (arith, c.requires.1, f)) c.put_before-n.ensures.found c.put_before-n.ensures.out_after in
    run_on (first_as v.0 (λ b q. search rules) (λ b q. q)) v.1 f c.if-n-lt8.false c.put_far.ensures
