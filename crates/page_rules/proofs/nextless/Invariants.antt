use Rattle.std.proofs.Common.{◌≡◌, List, drop}
use Rattle.layout.specs.Rows.{Row}
use Rattle.profile.specs.Offences.{nextless}
use Rattle.used_rows.specs.Held.{Held}
use Rattle.fault_places.specs.Places.{first_place}
use Rattle.page_rules.proofs.nextless.Given as goal

abbrev pub invariant-loop-row : goal.invariant-loop-row
invariant-loop-row l = (rows : List Row) → Held l.rows.table.grid l.rows.table.words.now l.rows.used rows → first_place (nextless rows) ≡ first_place (nextless (drop l.row rows))
