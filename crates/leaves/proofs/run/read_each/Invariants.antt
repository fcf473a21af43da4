use mathlib.Core.Path.{◌≡◌}
use Prim.Native.Nat.{◌-◌}
use lib.ListN.{length}
use Rattle.leaves.specs.Run.{run_slots, run_from, run_of}
use Rattle.leaves.proofs.run.read_each.Given as goal

abbrev pub invariant-loop-i : goal.invariant-loop-i
invariant-loop-i l =
    (l.n ≡ length (run_slots l.run))
    × (length l.words ≡ length l.initial.words)
    × (run_from l.grid l.file l.shared l.run l.spot.depth l.spot.parent (l.n - l.i) l.i l.next l.row l.padding l.words ≡ run_of l.grid l.file l.shared l.run l.spot.depth l.spot.parent l.spot.at l.spot.used l.initial.words)
