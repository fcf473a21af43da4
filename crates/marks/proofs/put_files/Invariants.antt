-- `marks::put_files` meets its contract: before each turn the first `i` files are put. Assumes nothing.
use Rattle.marks.proofs.Puts.{Putting}
use Rattle.marks.proofs.put_files.Given as goal

abbrev pub invariant-loop-i : goal.invariant-loop-i
invariant-loop-i l = Putting l.marked l.pack l.n l.initial.out l.out l._i l.at l.to
