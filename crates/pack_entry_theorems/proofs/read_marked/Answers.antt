use mathlib.Core.Bool.{true}
use native.Mathlib.Omega.{arith}
use lib.ListN.{length}
use Rattle.reading.specs.Reads.{small_by_index}
use Rattle.pack_entry_theorems.proofs.Laws.{reads_told}
use Rattle.pack_entry_theorems.proofs.read_marked.Goals as goal

pub returns : goal.returns
returns c =
    let a = c.args in
    let small = small_by_index a.pack.now (λ i h. omega (arith, c.type_inv.pack i)) in
    reads_told true a.pack.now (length a.table.now) small c.xnb_marked_read.ensures.at_after c.xnb_marked_read.ensures.table_after
