use Rattle.std.proofs.Common.{false}
use Rattle.xml_escape.specs.Runs.{AllOf}
use Rattle.xml_escape.proofs.runs.next_of.Given as goal

abbrev pub invariant-loop-k : goal.invariant-loop-k
invariant-loop-k g l = AllOf (λ b. g.C.Class.Tells l.class b false) l.s 0 l.k
