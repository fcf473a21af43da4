use Rattle.std.specs.Prelude.{◌≡◌, length}
use Rattle.std.proofs.Common.{arith}
use Rattle.salvage.proofs.Leads.{none_yet, one_more}
use Rattle.salvage.proofs.next_lead.Goals as goal

pub returns-then-pack-from : goal.returns-then-pack-from
returns-then-pack-from c = none_yet _ _ c.requires

pub loop-at-init : goal.loop-at-init
loop-at-init c = c.past_clear-at.ensures

pub returns-then-pack-at : goal.returns-then-pack-at
returns-then-pack-at c = c.loop-at.invariant

pub loop-at-preserved : goal.loop-at-preserved
loop-at-preserved c = one_more _ c.loop-at.invariant c.loop-at-test.true c.if-pack-at.false

pub returns : goal.returns
returns c =
    let e : c.loop-at.at ≡ length c.args.pack.now = omega (arith, c.loop-at.invariant.inside) in
    rw e at c.loop-at.invariant
