-- `salvage::measure` meets its contract: before each turn so many records are kept. Assumes nothing.
use Rattle.std.proofs.Common.{refl, arith}
use Rattle.reading.specs.Reads.{small_by_index}
use Rattle.salvage.proofs.Turns.{measure_start, measure_turn, measured, ends_here, ends-full}
use Rattle.salvage.proofs.measure.Goals.{else-loop-size-test, then-loop-size-test+in_default}
use Rattle.salvage.proofs.measure.Goals as goal

pub loop-size-init : goal.loop-size-init
loop-size-init c = measure_start _ c.requires

pub loop-size-preserved : goal.loop-size-preserved
loop-size-preserved c =
    let small = small_by_index c.args.pack.now (λ i h. omega (arith, c.type_inv.pack i)) in
    let s = c.in-Some.ensures in
    measure_turn _ c.loop-size.invariant small c.loop-size-test.true s.0 s.1 c.gap.ensures.value

pub returns : goal.returns
returns c =
    let m = c.loop-size.invariant in
    let small = small_by_index c.args.pack.now (λ i h. omega (arith, c.type_inv.pack i)) in
    elim c.loop-size-test.branch [
      | else-loop-size-test w ↦ measured _ m (ends-full _ m.reached w.loop-size-test.false) c.gap-2.ensures.value
      | then-loop-size-test+in_default w ↦ measured _ m (ends_here _ m.reached small w.loop-size-test.true (rw w.in_default.is at w.next_record.ensures) refl) c.gap-2.ensures.value
    ]
