use Rattle.std.proofs.Common.{◌≤◌, length}
use Rattle.number_rules.specs.Entries.{Standing}
use Rattle.target_rules.specs.Doubled.{LeftOf}
use Rattle.target_rules.proofs.first_double.Given as goal

abbrev pub invariant-loop-j : goal.invariant-loop-j
invariant-loop-j l = (length l.file ≤ 16777216 → Standing l.file l.j l.at) × LeftOf l.file l.codes l.targets l.count l.j
