-- `packs::read_files` meets its contract: before each turn the first `i` files are read. Assumes nothing.
use Rattle.std.proofs.Common.{refl, arith, rules}
use Rattle.std.proofs.lemmas.Result.{err_from_is_err_and}
use Rattle.pack_layout.specs.Table.{files_room}
use Rattle.pack_layout.specs.Pack.{mark_of}
use Rattle.reading.specs.Reads.{small_by_index}
use Rattle.packs.specs.Walk.{got, none, no_room, refuse, left_over}
use Rattle.packs.proofs.Turns.{begin, fills_refused, next, filled}
use Rattle.packs.proofs.read_files.Goals as goal

pub loop-i-init : goal.loop-i-init
unfolding files_room
loop-i-init c = (refl, refl, begin _ _ _ _ _)

pub returns-then-room-i : goal.returns-then-room-i
returns-then-room-i c =
    let a = c.args in
    let v = c.loop-i.invariant in
    rw (c.at.ensures, ← v.1) (fills_refused (mark_of a.marked) a.pack.now a.n _ _ (no_room _ _ _ _ v.2.walked c.loop-i-test.true c.if-room-i.true))

pub returns-in_err-file : goal.returns-in_err-file
returns-in_err-file c =
    let a = c.args in
    let v = c.loop-i.invariant in
    let m = mark_of a.marked in
    let p = err_from_is_err_and c.from_residual.result c.from_residual.ensures.1 in
    rw (p.1, p.2, ← v.1) (fills_refused m a.pack.now a.n _ _ (refuse _ _ _ _ v.2.walked c.loop-i-test.true c.if-room-i.false (none m _ _ c.in_err-file.ensures)))

pub overflow_mul-i : goal.overflow_mul-i
unfolding files_room
overflow_mul-i c = search rules

pub put_entry-requires : goal.put_entry-requires
unfolding files_room
put_entry-requires c = search rules

pub overflow_add-at : goal.overflow_add-at
overflow_add-at c =
    let a = c.args in
    let small = small_by_index a.pack.now (λ i h. omega (arith, c.type_inv.pack i)) in
    omega (arith, (got (mark_of a.marked) _ _ small c.in_ok-file.ensures).inside)

pub loop-i-preserved : goal.loop-i-preserved
loop-i-preserved c =
    let a = c.args in
    let v = c.loop-i.invariant in
    let small = small_by_index a.pack.now (λ i h. omega (arith, c.type_inv.pack i)) in
    let g = got (mark_of a.marked) _ _ small c.in_ok-file.ensures in
    (search rules, v.1, next _ _ _ _ v.2 c.loop-i-test.true c.if-room-i.false g c.put_entry.ensures)

pub returns-then-at-pack : goal.returns-then-at-pack
returns-then-at-pack c =
    let a = c.args in
    let v = c.loop-i.invariant in
    rw (c.at-then-at-pack.ensures, ← v.1) (fills_refused (mark_of a.marked) a.pack.now a.n _ _ (left_over _ _ _ _ v.2.walked c.loop-i-test.false c.if-at-pack.true))

pub returns : goal.returns
returns c =
    let a = c.args in
    let v = c.loop-i.invariant in
    rw (← v.1) (filled (mark_of a.marked) a.pack.now a.n _ v.2 c.loop-i-test.false c.if-at-pack.false)
