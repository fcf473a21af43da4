use native.Mathlib.Omega.{arith}
use Rattle.text.proofs.Laws.{passed_none, pass_ascii, pass_char, ran_to, ran_out}
use Rattle.text.proofs.chars.Goals as goal

pub loop-i-init : goal.loop-i-init
loop-i-init c = passed_none c.args.s.now c.args.from (omega arith)

pub loop-i-preserved-then-s-i-lt128 : goal.loop-i-preserved-then-s-i-lt128
loop-i-preserved-then-s-i-lt128 c =
    let a = c.args in
    pass_ascii a.s.now c.loop-i.i c.loop-i.invariant (omega arith) c.if-s-i-lt128.true

pub returns-then-k-eq0 : goal.returns-then-k-eq0
returns-then-k-eq0 c =
    let a = c.args in
    ran_out a.s.now c.loop-i.i c.loop-i.invariant c.multi-k.result (omega arith) c.multi-k.ensures c.if-k-eq0.true

pub overflow_add-i-else-s-i-lt128 : goal.overflow_add-i-else-s-i-lt128
overflow_add-i-else-s-i-lt128 c =
    let a = c.args in
    omega (arith, (pass_char a.s.now c.loop-i.i c.loop-i.invariant c.multi-k.result c.multi-k.ensures c.if-k-eq0.false).inside)

pub loop-i-preserved : goal.loop-i-preserved
loop-i-preserved c =
    let a = c.args in
    pass_char a.s.now c.loop-i.i c.loop-i.invariant c.multi-k.result c.multi-k.ensures c.if-k-eq0.false

pub returns : goal.returns
returns c =
    let a = c.args in
    ran_to a.s.now c.loop-i.i c.loop-i.invariant c.loop-i-test.false
