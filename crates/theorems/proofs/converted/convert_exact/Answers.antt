use native.Mathlib.Omega.{arith}
use Rattle.reading.specs.Reads.{small_by_index}
use Rattle.theorems.specs.MarkLaws.{convert-exact}
use Rattle.theorems.proofs.converted.convert_exact.Goals as goal

pub returns : goal.returns
returns c =
    let a = c.args in
    let small = small_by_index a.pack.now (λ i h. omega (arith, c.type_inv.pack i)) in
    record { converts = convert-exact a.marked a.pack.now a.out.now c.convert.ensures.value c.convert.ensures.out_after small; value = c.convert.ensures.value }
