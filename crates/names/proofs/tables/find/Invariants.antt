-- `names::tables::find` meets its contract: the entries that are left are as good as all. Assumes nothing.
use Rattle.std.proofs.Common.{length}
use Rattle.names.proofs.Lookup.{Left}
use Rattle.names.proofs.tables.find.Given as goal

abbrev pub invariant-loop-size : goal.invariant-loop-size
invariant-loop-size l = Left l.entries l.head l.rest

abbrev pub decreases-loop-size : goal.decreases-loop-size
decreases-loop-size l = length l.rest
