use Rattle.xml_import.proofs.Strings.{Stringing}
use Rattle.xml_import.proofs.put_strings.Given as goal

abbrev pub invariant-loop-k : goal.invariant-loop-k
invariant-loop-k l = Stringing l.xml l.initial.out l.count l.size l.out l.i l.to l.k
