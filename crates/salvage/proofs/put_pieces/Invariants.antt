-- `salvage::put_pieces` meets its contract: before each turn the first `i` records are put. Assumes nothing.
use Rattle.salvage.proofs.Puts.{Putting}
use Rattle.salvage.proofs.put_pieces.Given as goal

abbrev pub invariant-loop-i : goal.invariant-loop-i
invariant-loop-i l = Putting l.pack l.records l.initial.out l.initial.list l.out l.list l._i l.at l.to l.n
