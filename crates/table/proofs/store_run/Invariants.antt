-- `table::store_run` meets its contract: before each turn the first i rows stand in the words. Assumes nothing.
use Rattle.std.proofs.Common.{◌≡◌, ◌+◌, ◌*◌, length}
use Rattle.table.specs.Word.{in_word}
use Rattle.table.specs.Runs.{put_run}
use Rattle.table.proofs.store_run.Given as goal

abbrev pub invariant-loop-i : goal.invariant-loop-i
invariant-loop-i l = (length l.words ≡ length l.initial.words) × (l.at ≡ in_word (l.s.first + l.i * l.s.size)) × (l.bytes ≡ in_word l.s.size) × (l.words ≡ put_run l.grid l.used l.s.kind l.s.first l.s.size l.s.parent l.initial.words l.i)
