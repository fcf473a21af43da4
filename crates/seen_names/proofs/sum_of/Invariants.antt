use Rattle.std.proofs.Common.{◌≡◌, ◌≤◌, length, drop}
use Rattle.seen_names.specs.Sum.{sum_from, sum_of}
use Rattle.seen_names.proofs.sum_of.Given as goal

abbrev pub invariant-loop-four : goal.invariant-loop-four
invariant-loop-four l = (l.sum ≤ 4294967295) × (sum_from l.sum l.rest ≡ sum_of l.name)

abbrev pub decreases-loop-four : goal.decreases-loop-four
decreases-loop-four l = length l.rest

abbrev pub invariant-loop-b : goal.invariant-loop-b
invariant-loop-b l = (l.sum ≤ 4294967295) × (length l.b-items ≤ 3) × (sum_from l.sum (drop l.b-index l.b-items) ≡ sum_of l.name)
