-- `pack_report::count_files` meets its contract: what the files from `i` on add is still to be counted. Assumes nothing.
use Rattle.std.specs.Prelude.{◌≡◌}
use Rattle.load_part.specs.Part.{opened}
use Rattle.pack_counts.specs.Raise.{counted}
use Rattle.pack_report.specs.Files.{of_entries, entries_from}
use Rattle.pack_report.proofs.count_files.Given as goal

abbrev pub invariant-loop-i : goal.invariant-loop-i
invariant-loop-i l =
    (l.words ≡ l.initial.words) × (counted (of_entries (opened l.enums) l.pack l.table 0 l.files) l.initial.figures ≡ counted (entries_from (opened l.enums) l.pack l.table l.files l.i) l.figures)
