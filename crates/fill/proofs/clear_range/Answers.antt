-- `fill::clear_range` meets its contract. Assumes nothing.
use Rattle.std.proofs.Common.{arith, ◌-◌, min, length, drop, length-drop}
use Rattle.std.proofs.Math.Seq.{length-take-le}
use Rattle.fill.proofs.Laws.{put_wiped, wiped_none}
use Rattle.fill.proofs.clear_range.Goals as goal

pub returns-then-from-end : goal.returns-then-from-end
returns-then-from-end c =
    let a = c.args in
    let n = length-take-le (min a.to (length a.out.now) - a.from) (drop a.from a.out.now) (omega (arith, length-drop a.from a.out.now)) in
    rw c.min-end.ensures (put_wiped a.out.now a.from _ _ (rw (c.min-end.ensures, n) at (c.fill.ensures.after (λ y q. q))))

pub returns-else-from-end : goal.returns-else-from-end
returns-else-from-end c = wiped_none _ _ _ (omega arith)
