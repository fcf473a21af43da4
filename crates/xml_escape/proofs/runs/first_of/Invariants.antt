use Rattle.std.proofs.Common.{true, false}
use Rattle.xml_escape.specs.Runs.{Nearest}
use Rattle.xml_escape.proofs.runs.first_of.Given as goal

abbrev pub invariant-loop-j : goal.invariant-loop-j
invariant-loop-j g l = Nearest (λ b. g.C.Class.Tells l.class b false) (λ b. g.C.Class.Tells l.class b true) l.s 0 l.n l.j l.first
