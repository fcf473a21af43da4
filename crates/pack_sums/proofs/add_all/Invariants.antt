-- `pack_sums::add_all` meets its contract: before each turn the first `i` words are added. Assumes nothing.
use Rattle.std.specs.Prelude.{◌≡◌}
use Rattle.pack_sums.specs.Sum.{sums_to}
use Rattle.pack_sums.proofs.add_all.Given as goal

abbrev pub invariant-loop-i : goal.invariant-loop-i
invariant-loop-i l = l.into ≡ sums_to l.i l.initial.into l.other
