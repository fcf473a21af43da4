-- `fill::clear`: before each turn there are zeros up to `i`. Assumes nothing.
use Rattle.fill.proofs.Laws.{Zeroing}
use Rattle.fill.proofs.clear.Given as goal

abbrev pub invariant-loop-i : goal.invariant-loop-i
invariant-loop-i g l = Zeroing g.W.Word.ZERO l.initial.out l.from l.out l.i
