use mathlib.Core.Path.{sym}
use lib.Seq.{length-take-le}
use native.Mathlib.Omega.{arith}
use Rattle.std.proofs.lemmas.Result.{err_from_is_err_and}
use Rattle.theorems.proofs.Marks.{not_back, back}
use Rattle.theorems.proofs.converted.there_and_back.Goals as goal

pub slice_bounds-convert_exact-end : goal.slice_bounds-convert_exact-end
slice_bounds-convert_exact-end c = omega (arith, (c.convert_exact.ensures.converts.written _ c.in_ok-n.was).2)

pub slice_bounds-convert_exact-end-2 : goal.slice_bounds-convert_exact-end-2
slice_bounds-convert_exact-end-2 c = sym (length-take-le _ _ (c.convert_exact.ensures.converts.written _ c.in_ok-n.was).2)

pub returns-in_err-n : goal.returns-in_err-n
returns-in_err-n c =
    let p = err_from_is_err_and c.from_residual.result c.from_residual.ensures.1 in
    rw (p.1, p.2) (not_back c.convert_exact.ensures.converts c.in_err-n.was)

pub returns : goal.returns
returns c = back c.convert_exact.ensures.converts c.in_ok-n.was c.convert_exact-2.ensures.converts
