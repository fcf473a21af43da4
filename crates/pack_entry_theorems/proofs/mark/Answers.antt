use mathlib.Core.Bool.{true}
use native.Mathlib.Omega.{arith}
use Rattle.reading.specs.Reads.{small_by_index}
use Rattle.pack_entry_theorems.proofs.Laws.{converts-told}
use Rattle.pack_entry_theorems.proofs.mark.Goals as goal

pub returns : goal.returns
returns c =
    let a = c.args in
    let small = small_by_index a.pack.now (λ i h. omega (arith, c.type_inv.pack i)) in
    converts-told true a.pack.now a.out.now small c.xnb_pack_mark.ensures.at_after c.xnb_pack_mark.ensures.out_after
