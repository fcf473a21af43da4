use Rattle.fault_places.specs.Places.{Lowest}
use Rattle.key_order.specs.Texts.{key_text}
use Rattle.key_repeats.specs.Hits.{Pair}
use Rattle.key_repeats.specs.Gathered.{key_place}
use Rattle.key_repeats.proofs.pairs.Given as goal

abbrev pub invariant-loop-i : goal.invariant-loop-i
invariant-loop-i l =
    Lowest (Pair (key_text l.keys.file.now l.keys.table.grid l.keys.table.words.now l.keys.rows.now) (key_place l.keys.table.grid l.keys.table.words.now l.keys.rows.now) l.i) l.best
