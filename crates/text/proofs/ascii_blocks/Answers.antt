use Prim.Native.Nat.{◌+◌}
use native.Mathlib.Omega.{arith}
use Rattle.text.proofs.Laws.{passed_none, passed_on, pass_block}
use Rattle.text.proofs.ascii_blocks.Goals as goal

pub loop-i-init : goal.loop-i-init
loop-i-init c = passed_none c.args.s.now c.args.from c.requires.0

pub loop-i-preserved : goal.loop-i-preserved
loop-i-preserved c =
    let a = c.args in
    passed_on a.s.now c.loop-i.i c.loop-i.invariant (c.loop-i.i + a.n) (pass_block a.s.now a.n c.loop-i.i (omega arith) (c.ascii_block.ensures c.if-ascii_block.true))

pub returns-else-ascii_block : goal.returns-else-ascii_block
returns-else-ascii_block c = c.loop-i.invariant

pub returns : goal.returns
returns c = c.loop-i.invariant
