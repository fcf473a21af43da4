use mathlib.Core.Path.{◌≡◌}
use Prim.Native.Nat.{◌+◌}
use lib.ListN.{length}
use lib.Seq.{sets}
use Rattle.layout.specs.Shortest.{shortest}
use Rattle.numbers.specs.Shortest.{Rest}
use Rattle.numbers.proofs.shortest.put.Given as goal

abbrev pub invariant-loop-x : goal.invariant-loop-x
invariant-loop-x l = (length l.out ≡ length l.initial.out) × Rest l.out l.i l.x (sets l.initial.out l.at (shortest l.n)) (l.at + length (shortest l.n))

abbrev pub decreases-loop-x : goal.decreases-loop-x
decreases-loop-x l = l.x
