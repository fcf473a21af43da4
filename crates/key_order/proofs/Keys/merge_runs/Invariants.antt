use Rattle.std.proofs.Common.{◌≡◌, ◌≤◌, ◌-◌, length}
use Rattle.key_order.proofs.Keys.merge_runs.Given as goal

abbrev pub invariant-loop-width : goal.invariant-loop-width
invariant-loop-width l = (1 ≤ l.width) × (length l.order ≡ length l.initial.order) × (length l.spare ≡ length l.initial.spare)

abbrev pub decreases-loop-width : goal.decreases-loop-width
decreases-loop-width l = length l.initial.order - l.width
