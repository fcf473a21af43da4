-- `pack_lookup::same_blocks` meets its contract: before each turn the last bytes agree, and those up to `i`. Assumes nothing.
use Rattle.std.specs.Prelude.{◌-◌}
use Rattle.pack_lookup.proofs.Laws.{Agree}
use Rattle.pack_lookup.proofs.same_blocks.Given as goal

abbrev pub invariant-loop-i : goal.invariant-loop-i
invariant-loop-i l = Agree l.a l.b l.last l.i

abbrev pub decreases-loop-i : goal.decreases-loop-i
decreases-loop-i l = l.last - l.i
