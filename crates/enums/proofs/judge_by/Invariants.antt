use Rattle.std.proofs.Common.{◌≡◌, length}
use Rattle.enums.proofs.Judging.{Judging}
use Rattle.enums.proofs.judge_by.Given as goal

abbrev pub invariant-loop-count : goal.invariant-loop-count
invariant-loop-count l = (length l.seen ≡ length l.initial.seen) × Judging l.enums l.seen l.rest l.entry

abbrev pub decreases-loop-count : goal.decreases-loop-count
decreases-loop-count l = length l.rest
