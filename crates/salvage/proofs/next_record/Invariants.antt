-- `salvage::next_record` meets its contract: before each turn no record starts from `from` to `at`. Assumes nothing.
use Rattle.std.specs.Prelude.{◌-◌, length}
use Rattle.salvage.proofs.Pieces.{Past}
use Rattle.salvage.proofs.next_record.Given as goal

abbrev pub invariant-loop-at : goal.invariant-loop-at
invariant-loop-at l = Past l.pack l.from l.at

abbrev pub decreases-loop-at : goal.decreases-loop-at
decreases-loop-at l = length l.pack - l.at
