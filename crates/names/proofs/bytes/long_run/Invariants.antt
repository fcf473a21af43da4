use Rattle.std.proofs.Common.{◌≡◌, ◌+◌, ◌≤◌, length}
use Rattle.names.specs.Parse.{span}
use Rattle.names.specs.Contract.{class}
use Rattle.names.proofs.bytes.long_run.Given as goal

abbrev pub invariant-loop-block : goal.invariant-loop-block
invariant-loop-block l = (length l.rest ≤ length l.s) × (span (class l.of) l.s + length l.rest ≡ length l.s + span (class l.of) l.rest)

abbrev pub decreases-loop-block : goal.decreases-loop-block
decreases-loop-block l = length l.rest
