use Rattle.std.proofs.Common.{◌+◌, ◌≤◌, length}
use Rattle.enums.proofs.entries_in.Given as goal

abbrev pub invariant-loop-size : goal.invariant-loop-size
invariant-loop-size l = l.count + length l.rest ≤ length l.enums

abbrev pub decreases-loop-size : goal.decreases-loop-size
decreases-loop-size l = length l.rest
