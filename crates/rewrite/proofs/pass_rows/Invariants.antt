use mathlib.Core.Path.{◌≡◌}
use mathlib.Core.List.{List}
use Prim.Native.Nat.{ℕ, ◌-◌}
use lib.ListN.{length}
use Rattle.rewrite.specs.Table.{table_places}
use Rattle.rewrite.specs.Pending.{Pending}
use Rattle.rewrite.proofs.pass_rows.Given as goal

abbrev pub invariant-loop-row : goal.invariant-loop-row
invariant-loop-row l =
    (length l.out ≡ length l.initial.out) × ((base whole : List ℕ)
    → Pending l.file base l.initial.out l.initial.done.from l.initial.done.to (table_places l.file l.words l.rows 0) whole
    → Pending l.file base l.out l.done.from l.done.to (table_places l.file l.words (l.rows - l.row) l.row) whole)
