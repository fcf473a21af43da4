use Prim.Native.Nat.{◌-◌}
use lib.ListN.{length}
use Rattle.xml_import.proofs.Texts.{Reading}
use Rattle.xml_import.proofs.known_at.Given as goal

abbrev pub invariant-loop-i : goal.invariant-loop-i
invariant-loop-i l = Reading l.xml l.at l.i l.size

abbrev pub decreases-loop-i : goal.decreases-loop-i
decreases-loop-i l = length l.xml - l.i
