use Rattle.std.proofs.Common.{false, take}
use Rattle.xml_escape.specs.Runs.{AllOf}
use Rattle.xml_escape.specs.Wrote.{Put}
use Rattle.xml_escape.proofs.runs.put_before.Given as goal

abbrev pub invariant-loop-k : goal.invariant-loop-k
invariant-loop-k g l = record { before : AllOf (λ b. g.C.Class.Tells l.class b false) l.s 0 l.k; put : Put (take l.k l.s) 0 l.initial.out l.out }
