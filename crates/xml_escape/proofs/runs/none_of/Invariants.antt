use Rattle.std.proofs.Common.{◌≡◌, false}
use Rattle.xml_escape.specs.Runs.{AllOf}
use Rattle.xml_escape.proofs.runs.none_of.Given as goal

abbrev pub invariant-loop-j : goal.invariant-loop-j
invariant-loop-j g l = l.other ≡ false → AllOf (λ b. g.C.Class.Tells l.class b false) l.s l.i l.j
