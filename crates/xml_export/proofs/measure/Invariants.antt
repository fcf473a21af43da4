use Rattle.xml_export.proofs.Gathers.{Measuring}
use Rattle.xml_export.proofs.measure.Given as goal

abbrev pub invariant-loop-i : goal.invariant-loop-i
invariant-loop-i l = Measuring l.file l.words l.rows l.i l.size
