use Rattle.std.proofs.Common.{◌≡◌, take, not}
use Rattle.layout.specs.Name.{all}
use Rattle.names.specs.Contract.{class}
use Rattle.names.proofs.bytes.all_in_class.Given as goal

abbrev pub invariant-loop-b : goal.invariant-loop-b
invariant-loop-b l = l.other ≡ not (all (class l.of) (take l.b-index l.block))
