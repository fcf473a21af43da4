use mathlib.Core.Path.{◌≡◌}
use mathlib.Core.List.{List, ◌++◌}
use Prim.Native.Nat.{ℕ, ◌-◌}
use lib.ListN.{length}
use Rattle.reading.specs.Reads.{Small}
use Rattle.places.specs.Places.{entries_places}
use Rattle.rewrite.specs.Measured.{Passed}
use Rattle.rewrite.specs.Pending.{Pending}
use Rattle.rewrite.proofs.pass_entries.Given as goal

abbrev pub invariant-loop-i : goal.invariant-loop-i
invariant-loop-i l =
    (length l.out ≡ length l.initial.out) × ((s : Small l.file) → Passed l.file s l.readers l.at (l.readers - l.i) l.place × ((base places whole : List ℕ)
    → Pending l.file base l.initial.out l.initial.done.from l.initial.done.to (entries_places l.file l.readers l.at ++ places) whole
    → Pending l.file base l.out l.done.from l.done.to (entries_places l.file (l.readers - l.i) l.place ++ places) whole))
