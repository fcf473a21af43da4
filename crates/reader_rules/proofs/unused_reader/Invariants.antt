use Rattle.std.proofs.Common.{◌≤◌, length}
use Rattle.number_rules.specs.Entries.{Standing}
use Rattle.reader_rules.specs.Readers.{LeftOf}
use Rattle.reader_rules.proofs.unused_reader.Given as goal

abbrev pub invariant-loop-i : goal.invariant-loop-i
invariant-loop-i l = (length l.file ≤ 16777216 → Standing l.file l.i l.at) × LeftOf l.file l.rows.table.grid l.rows.table.words.now l.rows.used l.readers l.i
