use Rattle.std.proofs.Common.{false, ◌-◌, length}
use Rattle.xml_escape.specs.Runs.{Passed}
use Rattle.xml_escape.proofs.runs.past_blocks.Given as goal

abbrev pub invariant-loop-i : goal.invariant-loop-i
invariant-loop-i g l = Passed (λ b. g.C.Class.Tells l.class b false) l.s 0 l.i

abbrev pub decreases-loop-i : goal.decreases-loop-i
decreases-loop-i g l = length l.s - l.i
