-- `fill::clear` meets its contract. Assumes nothing.
use Rattle.std.proofs.Common.{arith}
use Rattle.fill.proofs.Laws.{zeroing_goes_on}
use Rattle.fill.proofs.clear.Goals as goal

pub loop-i-preserved : goal.loop-i-preserved
loop-i-preserved g c =
    rw c.zero.ensures (zeroing_goes_on g.W.Word.ZERO c.args.out.now c.args.from c.loop-i.invariant (omega arith) (omega arith))
