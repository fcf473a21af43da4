use Rattle.std.specs.Prelude.{◌≡◌, ◌+◌, ◌*◌, ◌-◌, ◌/◌, length}
use Rattle.std.proofs.Common.{arith}
use Rattle.salvage.proofs.Leads.{none_yet, onward}
use Rattle.salvage.proofs.past_clear.Goals as goal

pub loop-block-init : goal.loop-block-init
loop-block-init c =
    let z : c.args.from + 32 * 0 ≡ c.args.from = omega arith in
    rw z (none_yet _ _ c.requires)

pub returns-then-not-is_clear : goal.returns-then-not-is_clear
returns-then-not-is_clear c = c.loop-block.invariant

pub loop-block-preserved : goal.loop-block-preserved
loop-block-preserved c =
    let z : c.args.from + 32 * (c.loop-block.block + 1) ≡ c.args.from + 32 * c.loop-block.block + 32 = omega arith in
    rw z (onward _ c.loop-block.invariant (c.is_clear.ensures c.if-not-is_clear.false))

pub returns : goal.returns
returns c =
    let z : c.loop-block.block ≡ (length c.args.pack.now - c.args.from) / 32 = omega arith in
    rw z at c.loop-block.invariant
