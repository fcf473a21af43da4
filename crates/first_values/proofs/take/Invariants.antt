use Rattle.first_values.specs.Took.{Took}
use Rattle.first_values.proofs.take.Given as goal

abbrev pub invariant-loop-taken : goal.invariant-loop-taken
invariant-loop-taken l = Took l.grid l.file l.codes l.targets l.count l.declared l.used l.initial.words l.at l.taken l.next l.sum l.words
