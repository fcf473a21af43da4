use Rattle.std.proofs.Common.{ℕ, ◌+◌, get_or}
use Rattle.fault_places.specs.Places.{Lowest}
use Rattle.key_order.specs.Texts.{key_text}
use Rattle.key_repeats.specs.Hits.{Neighbour}
use Rattle.key_repeats.specs.Gathered.{key_place}
use Rattle.key_repeats.proofs.neighbours.Given as goal

abbrev pub invariant-loop-j : goal.invariant-loop-j
invariant-loop-j l =
    Lowest (Neighbour (key_text l.keys.file.now l.keys.table.grid l.keys.table.words.now l.keys.rows.now) (key_place l.keys.table.grid l.keys.table.words.now l.keys.rows.now) (λ (k : ℕ). get_or l.order k 0) l.m (l.j + 1)) l.best
