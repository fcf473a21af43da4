-- `clear_columns` meets its contract: before each turn the first `j` columns are cleared. Assumes nothing.
use Rattle.std.proofs.Common.{◌≡◌, ◌≤◌, length}
use Rattle.table.specs.Cleared.{columns_wiped}
use Rattle.table.proofs.clear_columns.Given as goal

abbrev pub invariant-loop-j : goal.invariant-loop-j
invariant-loop-j l = (l.j ≤ 7) × (length l.words ≡ length l.initial.words) × (l.words ≡ columns_wiped l.grid l.initial.words l.used.0 l.j)
