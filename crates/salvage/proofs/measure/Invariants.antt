-- `salvage::measure` meets its contract: before each turn so many records are kept. Assumes nothing.
use Rattle.std.specs.Prelude.{◌-◌}
use Rattle.salvage.proofs.Turns.{Measuring}
use Rattle.salvage.proofs.measure.Given as goal

abbrev pub invariant-loop-size : goal.invariant-loop-size
invariant-loop-size l = Measuring l.pack l.size.records l.size.bytes l.size.stretches l.at

abbrev pub decreases-loop-size : goal.decreases-loop-size
decreases-loop-size l = 4096 - l.size.records
