use Rattle.std.proofs.Common.{◌+◌, ◌*◌, ◌-◌, length}
use Rattle.xml_export.proofs.Escapes.{Sized}
use Rattle.xml_export.proofs.escape.filled_size.Given as goal

abbrev pub invariant-loop-i : goal.invariant-loop-i
invariant-loop-i l = Sized l.text l.i l.size

abbrev pub decreases-loop-i : goal.decreases-loop-i
decreases-loop-i l = 2 * (length l.text - l.i) + (1 - l.left)
