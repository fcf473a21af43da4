use mathlib.Core.Path.{◌≡◌}
use Prim.Native.Nat.{◌+◌, ◌-◌, ◌≤◌}
use lib.ListN.{length}
use Rattle.reader_names.proofs.Laws.{Left}
use Rattle.reader_names.proofs.judge_lines.Given as goal

abbrev pub invariant-loop-at : goal.invariant-loop-at
invariant-loop-at l = ((l.at ≤ length l.s + 1) × (l.count ≤ l.at) × (length l.numbers ≡ length l.initial.numbers)) × Left l.s l.initial.numbers l.numbers l.at l.count

abbrev pub decreases-loop-at : goal.decreases-loop-at
decreases-loop-at l = length l.s + 1 - l.at
