use native.Mathlib.Omega.{arith}
use Rattle.text.proofs.Laws.{passed_none}
use Rattle.text.proofs.Windows.{three-more}
use Rattle.text.proofs.char_blocks.Goals as goal

pub returns-then-s-from-lt67 : goal.returns-then-s-from-lt67
returns-then-s-from-lt67 c = passed_none c.args.s.now c.args.from c.requires

pub returns-then-misfits : goal.returns-then-misfits
returns-then-misfits c = passed_none c.args.s.now c.args.from c.requires

pub loop-at-init : goal.loop-at-init
loop-at-init c = (omega arith, c.misfits.ensures c.if-misfits.false)

pub loop-at-preserved : goal.loop-at-preserved
loop-at-preserved c =
    let a = c.args in
    (omega arith, three-more a.s.now c.loop-at.at a.from 64 (omega arith) c.loop-at.invariant.1 (c.fit.ensures c.if-fit.true))

pub returns-else-fit : goal.returns-else-fit
returns-else-fit c = c.last_start.ensures c.args.from c.loop-at.invariant.1

pub returns : goal.returns
returns c = c.last_start-2.ensures c.args.from c.loop-at.invariant.1
