use native.Mathlib.Omega.{arith}
use Rattle.reading.specs.Reads.{small_by_index}
use Rattle.theorems.specs.SalvageLaws.{salvage_exact}
use Rattle.theorems.proofs.salvaged.salvage_exact.Goals as goal

pub returns : goal.returns
returns c =
    let args = c.args in
    let small = small_by_index args.pack.now (λ i h. omega (arith, c.type_inv.pack i)) in
    salvage_exact args.pack.now args.out.now args.list.now small c.salvage.ensures.value c.salvage.ensures.out_after c.salvage.ensures.list_after
