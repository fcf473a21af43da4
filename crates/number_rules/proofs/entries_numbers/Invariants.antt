use Rattle.std.proofs.Common.{◌≤◌, ◌-◌, length}
use Rattle.number_rules.specs.Numbers.{Reached}
use Rattle.number_rules.proofs.entries_numbers.Given as goal

abbrev pub invariant-loop : goal.invariant-loop
invariant-loop l = length l.file ≤ 16777216 → l.from ≤ 8589934592 → Reached l.file l.readers l.from (l.readers - l.counter) l.at
