use Rattle.std.proofs.Common.{◌-◌, length}
use Rattle.xml_export.proofs.Escapes.{Putting}
use Rattle.xml_export.proofs.escape.put_text.Given as goal

abbrev pub invariant-loop-i : goal.invariant-loop-i
invariant-loop-i l = Putting l.text l.initial.out l.to l.out l.i l.j

abbrev pub decreases-loop-i : goal.decreases-loop-i
decreases-loop-i l = length l.text - l.i
