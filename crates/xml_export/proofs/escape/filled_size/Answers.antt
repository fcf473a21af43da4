use Rattle.std.proofs.Common.{arith, rules}
use Rattle.xml_export.proofs.Escapes.{sized_first, sized-blocks, sized_byte, unwritten_byte, sized-end}
use Rattle.xml_export.proofs.escape.filled_size.Goals as goal

pub loop-i-init : goal.loop-i-init
loop-i-init c = sized_first (c.quiet_run-i.ensures.run (omega arith))

pub loop-i-preserved-in-Some-eq32 : goal.loop-i-preserved-in-Some-eq32
loop-i-preserved-in-Some-eq32 c = sized-blocks c.loop-i.invariant c.in-Some-eq32.ensures (search rules) (c.quiet_blocks-next.ensures c.in-Some-eq32.ensures.inside)

pub returns-in_err-size : goal.returns-in_err-size
returns-in_err-size c = rw c.from_residual.ensures (unwritten_byte c.loop-i.invariant c.loop-i-test.true c.in_err-size.ensures)

pub overflow_add-size-else-left-eq0 : goal.overflow_add-size-else-left-eq0
overflow_add-size-else-left-eq0 c =
    let v = sized_byte c.loop-i.invariant c.loop-i-test.true c.in_ok-size.ensures in
    omega (arith, v.bound, v.inside, c.requires)

pub loop-i-preserved : goal.loop-i-preserved
loop-i-preserved c = sized_byte c.loop-i.invariant c.loop-i-test.true c.in_ok-size.ensures

pub returns : goal.returns
returns c = sized-end c.loop-i.invariant c.loop-i-test.false
