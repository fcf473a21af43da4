-- `pack_lookup::same_blocks` meets its contract: before each turn the last bytes agree, and those up to `i`. Assumes nothing.
use Rattle.std.proofs.Common.{arith}
use Rattle.pack_lookup.proofs.Laws.{other_block, same_start, same_next, same_end}
use Rattle.pack_lookup.proofs.same_blocks.Goals as goal

pub returns-then-differ : goal.returns-then-differ
returns-then-differ c = other_block c.requires.0 (omega (arith, c.requires.2)) c.differ.ensures c.if-differ.true

pub loop-i-init : goal.loop-i-init
loop-i-init c = same_start c.requires.0 (omega (arith, c.requires.2)) c.differ.ensures c.if-differ.false

pub returns-then-differ-2 : goal.returns-then-differ-2
returns-then-differ-2 c = other_block c.requires.0 (omega (arith, c.requires.2)) c.differ-in-loop-i.ensures c.if-differ-2.true

pub loop-i-preserved : goal.loop-i-preserved
loop-i-preserved c = same_next c.requires.0 c.loop-i.invariant c.differ-in-loop-i.ensures c.if-differ-2.false

pub returns-else-differ : goal.returns-else-differ
returns-else-differ c = same_end c.requires.0 c.loop-i.invariant c.loop-i-test.false

pub returns-else-differ-2 : goal.returns-else-differ-2
returns-else-differ-2 c = same_end c.requires.0 (same_next c.requires.0 c.loop-i.invariant c.differ-in-loop-i.ensures c.if-differ-2.false) (omega arith)
