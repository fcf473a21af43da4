use mathlib.Core.Path.{sym}
use lib.Seq.{length-take-le}
use native.Mathlib.Omega.{arith}
use Rattle.std.proofs.lemmas.Result.{err_from_is_err_and}
use Rattle.theorems.proofs.Salvage.{not_twice, twice}
use Rattle.theorems.proofs.salvaged.salvage_twice.Goals as goal

pub slice_bounds-salvage_exact-end : goal.slice_bounds-salvage_exact-end
slice_bounds-salvage_exact-end c = omega (arith, (c.salvage_exact.ensures.written _ _ c.in_ok-salvaged.was).3)

pub slice_bounds-salvage_exact-end-2 : goal.slice_bounds-salvage_exact-end-2
slice_bounds-salvage_exact-end-2 c = sym (length-take-le _ _ (c.salvage_exact.ensures.written _ _ c.in_ok-salvaged.was).3)

pub returns-in_err-salvaged : goal.returns-in_err-salvaged
returns-in_err-salvaged c =
    let p = err_from_is_err_and c.from_residual.result c.from_residual.ensures.1 in
    rw (p.1, p.2) (not_twice c.salvage_exact.ensures c.in_err-salvaged.was)

pub returns : goal.returns
returns c = twice c.salvage_exact.ensures c.in_ok-salvaged.was c.salvage_exact-2.ensures
