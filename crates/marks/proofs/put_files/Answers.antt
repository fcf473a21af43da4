-- `marks::put_files` meets its contract: before each turn the first `i` files are put. Assumes nothing.
use Rattle.std.proofs.Common.{sym, ◌∙◌, arith}
use Rattle.marks.proofs.Puts.{base_long, start, is_read, ends-inside, has-place, turn, put-length, ended}
use Rattle.marks.proofs.put_files.Goals as goal

pub loop-i-init : goal.loop-i-init
loop-i-init c =
    let a = c.args in
    start a.marked a.pack.now a.n a.out.now c.requires c.copy.ensures.out_after

pub unwrap-file-requires : goal.unwrap-file-requires
unwrap-file-requires c = is_read _ _ _ _ c.loop-i.invariant c.loop-i-test.true _ c.record_at.ensures

pub overflow_add-end : goal.overflow_add-end
overflow_add-end c = omega (arith, ends-inside _ _ _ _ c.loop-i.invariant c.loop-i-test.true (sym c.unwrap-file.ensures ∙ c.record_at.ensures))

pub put_record-to-requires : goal.put_record-to-requires
put_record-to-requires c = has-place _ _ _ _ c.loop-i.invariant c.loop-i-test.true (sym c.unwrap-file.ensures ∙ c.record_at.ensures)

pub loop-i-preserved : goal.loop-i-preserved
loop-i-preserved c = turn _ _ _ _ c.loop-i.invariant c.loop-i-test.true (sym c.unwrap-file.ensures ∙ c.record_at.ensures) c.put_record-to.ensures

pub shape_of-out : goal.shape_of-out
shape_of-out c =
    let a = c.args in
    put-length _ _ _ _ c.loop-i.invariant ∙ base_long a.marked a.pack.now a.n a.out.now c.requires c.copy.ensures.out_after

pub returns : goal.returns
returns c =
    let a = c.args in
    ended a.marked a.pack.now a.n a.out.now c.requires c.copy.ensures.out_after c.loop-i.invariant c.loop-i-test.false
