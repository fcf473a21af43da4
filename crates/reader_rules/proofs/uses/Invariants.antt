use Rattle.std.proofs.Common.{◌≡◌, List, drop}
use Rattle.layout.specs.Rows.{Row}
use Rattle.profile.specs.Offences.{uses}
use Rattle.used_rows.specs.Held.{Held}
use Rattle.reader_rules.proofs.uses.Given as goal

abbrev pub invariant-loop-row : goal.invariant-loop-row
invariant-loop-row l = (rows : List Row) → Held l.rows.table.grid l.rows.table.words.now l.rows.used rows → uses l.id rows ≡ uses l.id (drop l.row rows)
