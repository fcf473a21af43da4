use native.Mathlib.Omega.{arith}
use Rattle.text.proofs.Laws.{passed_none, passed_on}
use Rattle.text.proofs.past_blocks.Goals as goal

pub loop-i-init : goal.loop-i-init
loop-i-init c = passed_none c.args.s.now 0 (omega arith)

pub returns-then-w-i : goal.returns-then-w-i
returns-then-w-i c =
    let t = c.args.s.now in
    passed_on t c.ascii_blocks-b.result (passed_on t c.ascii_blocks-a.result (passed_on t c.loop-i.i c.loop-i.invariant c.ascii_blocks-a.result c.ascii_blocks-a.ensures) c.ascii_blocks-b.result c.ascii_blocks-b.ensures) c.char_blocks-w.result c.char_blocks-w.ensures

pub loop-i-preserved : goal.loop-i-preserved
loop-i-preserved c =
    let t = c.args.s.now in
    passed_on t c.ascii_blocks-b.result (passed_on t c.ascii_blocks-a.result (passed_on t c.loop-i.i c.loop-i.invariant c.ascii_blocks-a.result c.ascii_blocks-a.ensures) c.ascii_blocks-b.result c.ascii_blocks-b.ensures) c.char_blocks-w.result c.char_blocks-w.ensures

pub returns : goal.returns
returns c = c.loop-i.invariant
