use Rattle.std.proofs.Common.{◌+◌, ◌-◌}
use Rattle.xml_import.proofs.Writing.{Putting}
use Rattle.xml_import.proofs.put_text.Given as goal

abbrev pub invariant-loop-j : goal.invariant-loop-j
invariant-loop-j l = Putting l.xml l.initial.out l.text.at l.to l.text.size l.out l.i l.j

abbrev pub decreases-loop-j : goal.decreases-loop-j
decreases-loop-j l = l.to + l.text.size - l.j
