use Rattle.std.proofs.Common.{sym, ◌∙◌, arith, length-drop}
use Rattle.names.specs.Contract.{class}
use Rattle.names.specs.Sound.{span_le}
use Rattle.names.proofs.Laws.{span_block}
use Rattle.names.proofs.bytes.long_run.Goals as goal

pub loop-block-preserved : goal.loop-block-preserved
loop-block-preserved c =
    let rest = c.loop-block.rest.now in
    let p = class c.args.of in
    let e = c.in-Some.ensures.cases in
    let d = length-drop 32 rest in
    let h = span_block p rest 32 (omega (arith, e.2)) (rw (← e.0) (sym c.all_in_class.ensures ∙ c.if-not-all_in_class.false)) in
    rw e.1 (omega (arith, c.loop-block.invariant.0), omega (arith, c.loop-block.invariant.1, h, d, e.2))

pub overflow_add-result : goal.overflow_add-result
overflow_add-result c = omega (arith, span_le (class c.args.of) c.loop-block.rest.now, c.run.ensures, c.loop-block.invariant.0)
