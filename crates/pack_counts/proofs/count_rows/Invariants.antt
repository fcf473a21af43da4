-- `pack_counts::count_rows` meets its contract: what the rows from `row` on add is still to be counted. Assumes nothing.
use Rattle.std.specs.Prelude.{◌≡◌}
use Rattle.pack_figures.specs.Digest.{marks, of_marks}
use Rattle.pack_counts.specs.Raise.{counted}
use Rattle.pack_counts.specs.Count.{rows_at, rows_from}
use Rattle.pack_counts.proofs.count_rows.Given as goal

abbrev pub invariant-loop-row : goal.invariant-loop-row
invariant-loop-row l =
    counted (of_marks (marks l.file (rows_at l.table.grid l.table.words.now 0 l.used))) l.initial.figures ≡ counted (rows_from l.file l.table.grid l.table.words.now l.used l.row) l.figures
