-- `run::all_at_most` meets its contract: before each turn the bytes so far are at most `most` unless `over` says that one is above. Assumes nothing.
use mathlib.Core.Path.{◌≡◌}
use mathlib.Core.Bool.{false}
use Rattle.leaves.specs.Same.{AtMost}
use Rattle.leaves.proofs.run.all_at_most.Given as goal

abbrev pub invariant-loop-i : goal.invariant-loop-i
invariant-loop-i l = l.over ≡ false → AtMost l.file l.at l.i l.most
