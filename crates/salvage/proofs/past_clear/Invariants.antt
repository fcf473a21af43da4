-- `salvage::past_clear` meets its contract: before each turn the blocks so far have no FD. Assumes nothing.
use Rattle.std.specs.Prelude.{◌+◌, ◌*◌}
use Rattle.salvage.specs.Salvaging.{NoLead}
use Rattle.salvage.proofs.past_clear.Given as goal

abbrev pub invariant-loop-block : goal.invariant-loop-block
invariant-loop-block l = NoLead l.pack l.from (l.from + 32 * l.block)
