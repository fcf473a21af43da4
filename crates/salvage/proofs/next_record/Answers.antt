-- `salvage::next_record` meets its contract: before each turn no record starts from `from` to `at`. Assumes nothing.
use Rattle.std.proofs.Common.{sym, ◌∙◌, arith}
use Rattle.reading.specs.Reads.{small_by_index}
use Rattle.salvage.proofs.Pieces.{refused_none, found_stands, past_leads, past-tried, next_found, next_none}
use Rattle.salvage.proofs.next_record.Goals as goal

pub loop-at-init : goal.loop-at-init
loop-at-init c = past_leads _ c.next_lead-at.ensures

pub loop-at-preserved : goal.loop-at-preserved
loop-at-preserved c = past-tried _ c.loop-at.invariant (refused_none _ _ (sym c.in-Err.is ∙ c.record_at.ensures)) c.next_lead-at-in-Err.ensures

pub overflow_add-result : goal.overflow_add-result
overflow_add-result c =
    let small = small_by_index c.args.pack.now (λ i h. omega (arith, c.type_inv.pack i)) in
    omega (arith, (found_stands c.args.pack.now _ small (sym c.in-Ok.is ∙ c.record_at.ensures)).0)

pub returns-in-Ok : goal.returns-in-Ok
returns-in-Ok c =
    let small = small_by_index c.args.pack.now (λ i h. omega (arith, c.type_inv.pack i)) in
    next_found _ c.loop-at.invariant (found_stands c.args.pack.now _ small (sym c.in-Ok.is ∙ c.record_at.ensures))

pub returns : goal.returns
returns c = next_none _ c.loop-at.invariant c.loop-at-test.false
