use Rattle.std.proofs.Common.{◌≡◌, List, drop}
use Rattle.layout.specs.Rows.{Row}
use Rattle.places.specs.Places.{rows_places}
use Rattle.profile.specs.Offences.{padded}
use Rattle.fault_places.specs.Places.{first_place}
use Rattle.used_rows.specs.Held.{Held}
use Rattle.number_rules.proofs.rows_numbers.Given as goal

abbrev pub invariant-loop-row : goal.invariant-loop-row
invariant-loop-row l =
    (rows : List Row) → Held l.rows.table.grid l.rows.table.words.now l.rows.used rows → first_place (padded l.file (rows_places l.file rows)) ≡ first_place (padded l.file (rows_places l.file (drop l.row rows)))
