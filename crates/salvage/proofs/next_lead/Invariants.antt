-- `salvage::next_lead` meets its contract: before each turn no byte from `from` to `at` is FD. Assumes nothing.
use Rattle.salvage.specs.Salvaging.{NoLead}
use Rattle.salvage.proofs.next_lead.Given as goal

abbrev pub invariant-loop-at : goal.invariant-loop-at
invariant-loop-at l = NoLead l.pack l.from l.at
