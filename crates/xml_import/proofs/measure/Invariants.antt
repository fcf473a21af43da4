use Prim.Native.Nat.{◌-◌}
use lib.ListN.{length}
use Rattle.xml_import.proofs.Whole.{Walking}
use Rattle.xml_import.proofs.measure.Given as goal

abbrev pub invariant-loop-i : goal.invariant-loop-i
invariant-loop-i l = Walking l.xml l.i l.count l.size

abbrev pub decreases-loop-i : goal.decreases-loop-i
decreases-loop-i l = length l.xml - l.i
