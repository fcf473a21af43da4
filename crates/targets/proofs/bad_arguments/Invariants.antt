-- `targets::bad_arguments` meets its contract. Assumes nothing.
use Rattle.std.proofs.Common.{◌≡◌, drop}
use Rattle.targets.specs.Judge.{bad_arguments, complaint}
use Rattle.targets.proofs.bad_arguments.Given as goal

abbrev pub invariant-loop-w : goal.invariant-loop-w
invariant-loop-w l = complaint (bad_arguments l.first l.s) ≡ complaint (bad_arguments l.nullable (drop l.w-index l.s))
