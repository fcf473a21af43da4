use Rattle.std.proofs.Common.{◌≡◌, ◌≤◌, ◌-◌, List, length}
use Rattle.layout.specs.Rows.{Row}
use Rattle.used_rows.specs.Held.{Held}
use Rattle.key_repeats.specs.Gathered.{Left}
use Rattle.key_repeats.proofs.gather.Given as goal

abbrev pub invariant-loop : goal.invariant-loop
invariant-loop l =
    (l.m ≤ l.counter) × (length l.keys ≡ length l.initial.keys)
    × ((rows : List Row) → Held l.rows.table.grid l.rows.table.words.now l.rows.used rows → Left l.rows.used l.n l.first rows l.keys l.m (l.n - l.counter) l.row)
