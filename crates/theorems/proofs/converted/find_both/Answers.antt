use mathlib.Core.Path.{◌≡◌, sym}
use lib.ListN.{length}
use lib.Seq.{length-take-le}
use native.Mathlib.Omega.{arith}
use Rattle.theorems.proofs.Marks.{not_same, same_data}
use borrow.Author.Rules.{rules}
use Rattle.theorems.proofs.converted.find_both.Goals as goal

pub slice_bounds-read-end : goal.slice_bounds-read-end
slice_bounds-read-end c = omega (arith, (c.convert_exact.ensures.converts.written _ c.in-Ok.is).2)

pub slice_bounds-read-end-in-Ok : goal.slice_bounds-read-end-in-Ok
slice_bounds-read-end-in-Ok c = sym (length-take-le _ _ (c.convert_exact.ensures.converts.written _ c.in-Ok.is).2)

pub slice_bounds-find-end : goal.slice_bounds-find-end
slice_bounds-find-end c = omega (arith, (c.convert_exact.ensures.converts.written _ c.in-Ok.is).2)

pub slice_bounds-find-end-in-Ok : goal.slice_bounds-find-end-in-Ok
slice_bounds-find-end-in-Ok c = sym (length-take-le _ _ (c.convert_exact.ensures.converts.written _ c.in-Ok.is).2)

pub returns-in-Err : goal.returns-in-Err
returns-in-Err c =
    let a = c.args in
    not_same c.convert_exact.ensures.converts a.path.now c.read.ensures.table_after c.find-given.ensures c.in-Err.is

pub returns-in-Ok : goal.returns-in-Ok
returns-in-Ok c =
    let a = c.args in
    let l : length c.read.new.table ≡ length a.table.now = search rules in
    same_data c.convert_exact.ensures.converts a.path.now c.read.ensures.table_after c.find-given.ensures c.in-Ok.is (rw l at c.read-in-Ok.ensures.table_after) c.find-new.ensures
