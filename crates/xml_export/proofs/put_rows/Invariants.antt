use Rattle.xml_export.proofs.Gathers.{Placing}
use Rattle.xml_export.proofs.put_rows.Given as goal

abbrev pub invariant-loop-i : goal.invariant-loop-i
invariant-loop-i l = Placing l.file l.words l.rows l.initial.out l.out l.i l.to
