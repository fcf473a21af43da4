-- `salvage::put_pieces` meets its contract: before each turn the first `i` records are put. Assumes nothing.
use Rattle.std.proofs.Common.{arith}
use Rattle.reading.specs.Reads.{small_by_index}
use Rattle.salvage.proofs.Puts.{is_found, gap_room, put-turn, last_fits, put-list, put_output, count_fits, put-start, whole_output, whole-list}
use Rattle.salvage.proofs.put_pieces.Goals as goal

pub put_count-requires : goal.put_count-requires
put_count-requires c = count_fits c.args.pack.now c.args.records c.args.out.now c.args.list.now c.requires

pub loop-i-init : goal.loop-i-init
loop-i-init c =
    let args = c.args in
    put-start args.pack.now args.records args.out.now args.list.now c.requires c.put_count.ensures

pub unwrap-next-requires : goal.unwrap-next-requires
unwrap-next-requires c =
    let small = small_by_index c.args.pack.now (λ i h. omega (arith, c.type_inv.pack i)) in
    is_found _ _ _ _ c.loop-i.invariant small c.loop-i-test.true _ c.next_record.ensures

pub put_gap-n-requires : goal.put_gap-n-requires
put_gap-n-requires c =
    let small = small_by_index c.args.pack.now (λ i h. omega (arith, c.type_inv.pack i)) in
    let s = rw c.unwrap-next.ensures at c.next_record.ensures in
    gap_room _ _ _ _ c.loop-i.invariant small c.loop-i-test.true s.0 s.1

pub loop-i-preserved : goal.loop-i-preserved
loop-i-preserved c =
    let small = small_by_index c.args.pack.now (λ i h. omega (arith, c.type_inv.pack i)) in
    let s = rw c.unwrap-next.ensures at c.next_record.ensures in
    put-turn _ _ _ _ c.loop-i.invariant small c.loop-i-test.true s.0 s.1 c.put_gap-n.ensures c.copy.ensures.out_after

pub put_gap-requires : goal.put_gap-requires
put_gap-requires c =
    let small = small_by_index c.args.pack.now (λ i h. omega (arith, c.type_inv.pack i)) in
    last_fits _ _ _ _ c.loop-i.invariant small c.loop-i-test.false

pub returns : goal.returns
returns c =
    let args = c.args in
    let small = small_by_index args.pack.now (λ i h. omega (arith, c.type_inv.pack i)) in
    record {
      out_after = whole_output args.pack.now args.records args.out.now args.list.now c.requires c.put_count.ensures (put_output _ _ _ _ c.loop-i.invariant small c.loop-i-test.false);
      list_after = whole-list args.pack.now args.records args.out.now args.list.now c.requires (put-list _ _ _ _ c.loop-i.invariant small c.loop-i-test.false c.put_gap.ensures);
    }
