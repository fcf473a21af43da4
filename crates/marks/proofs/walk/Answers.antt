-- `marks::walk` meets its contract: before each turn the first `i` files are read. Assumes nothing.
use Rattle.std.specs.Prelude.{[]}
use Rattle.std.proofs.Common.{arith}
use Rattle.std.proofs.lemmas.Result.{err_from_is_err_and}
use Rattle.reading.specs.Reads.{small_by_index}
use Rattle.pack_layout.specs.Pack.{mark_of}
use Rattle.packs.specs.Walk.{start, got, none, refuse, turn, left_over, ended}
use Rattle.marks.proofs.Answers.{walk_refused, walk-read}
use Rattle.marks.proofs.walk.Goals as goal

pub loop-i-init : goal.loop-i-init
loop-i-init c = ([], start _ _ _ _)

pub returns-in_err-file : goal.returns-in_err-file
returns-in_err-file c =
    let v = c.loop-i.invariant in
    let p = err_from_is_err_and c.from_residual.result c.from_residual.ensures.1 in
    rw (p.1, p.2) (walk_refused _ (refuse _ _ _ _ v.1 c.loop-i-test.true (omega (arith, c.requires)) (none (mark_of c.args.marked) _ _ c.in_err-file.ensures)))

pub overflow_add-at : goal.overflow_add-at
overflow_add-at c =
    let a = c.args in
    let small = small_by_index a.pack.now (λ i h. omega (arith, c.type_inv.pack i)) in
    let g = got (mark_of a.marked) _ _ small c.in_ok-file.ensures in
    omega (arith, g.inside)

pub loop-i-preserved : goal.loop-i-preserved
loop-i-preserved c =
    let a = c.args in
    let v = c.loop-i.invariant in
    let small = small_by_index a.pack.now (λ i h. omega (arith, c.type_inv.pack i)) in
    let g = got (mark_of a.marked) _ _ small c.in_ok-file.ensures in
    (_, turn _ _ _ _ v.1 c.loop-i-test.true (omega (arith, c.requires)) g)

pub returns-then-at-pack : goal.returns-then-at-pack
returns-then-at-pack c = rw c.at.ensures (walk_refused _ (left_over _ _ _ _ c.loop-i.invariant.1 c.loop-i-test.false c.if-at-pack.true))

pub returns : goal.returns
returns c = walk-read _ (ended _ _ _ _ c.loop-i.invariant.1 c.loop-i-test.false c.if-at-pack.false)
