use mathlib.Core.Path.{sym}
use lib.Seq.{length-take-le}
use native.Mathlib.Omega.{arith}
use Rattle.std.proofs.lemmas.Result.{err_from_is_err_and}
use Rattle.theorems.specs.Laws.{not_rewritten_again, rewritten_again}
use Rattle.theorems.proofs.rewrite_twice.Goals as goal

pub slice_bounds-rewrite_exact-end : goal.slice_bounds-rewrite_exact-end
slice_bounds-rewrite_exact-end c = omega (arith, (c.rewrite_exact.ensures.rewrites.written _ c.in_ok-n.was).1)

pub slice_bounds-rewrite_exact-end-2 : goal.slice_bounds-rewrite_exact-end-2
slice_bounds-rewrite_exact-end-2 c = sym (length-take-le _ _ (c.rewrite_exact.ensures.rewrites.written _ c.in_ok-n.was).1)

pub returns-in_err-n : goal.returns-in_err-n
returns-in_err-n c =
    let p = err_from_is_err_and c.from_residual.result c.from_residual.ensures.1 in
    rw (p.1, p.2) (not_rewritten_again c.rewrite_exact.ensures.rewrites c.in_err-n.was)

pub returns : goal.returns
returns c = rewritten_again c.rewrite_exact.ensures.rewrites c.in_ok-n.was c.rewrite_exact.auto.words c.rewrite_exact-2.ensures.rewrites
