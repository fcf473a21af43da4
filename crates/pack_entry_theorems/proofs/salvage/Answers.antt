use native.Mathlib.Omega.{arith}
use Rattle.reading.specs.Reads.{small_by_index}
use Rattle.pack_entry_theorems.proofs.Laws.{salvages_told}
use Rattle.pack_entry_theorems.proofs.salvage.Goals as goal

pub returns : goal.returns
returns c =
    let a = c.args in
    let small = small_by_index a.pack.now (λ i h. omega (arith, c.type_inv.pack i)) in
    salvages_told a.pack.now a.out.now a.list.now small c.xnb_pack_salvage.ensures.stretches_after c.xnb_pack_salvage.ensures.out_after c.xnb_pack_salvage.ensures.list_after
