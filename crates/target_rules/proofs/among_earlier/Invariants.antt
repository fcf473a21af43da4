use Rattle.target_rules.specs.Doubled.{NoneSince}
use Rattle.target_rules.proofs.among_earlier.Given as goal

abbrev pub invariant-loop-i : goal.invariant-loop-i
invariant-loop-i l = NoneSince l.file l.codes l.targets l.j l.i
