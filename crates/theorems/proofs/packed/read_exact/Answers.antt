use native.Mathlib.Omega.{arith}
use Rattle.reading.specs.Reads.{small_by_index}
use lib.ListN.{length}
use Rattle.theorems.specs.PackLaws.{read-exact}
use Rattle.theorems.proofs.packed.read_exact.Goals as goal

pub returns : goal.returns
returns c =
    let a = c.args in
    let small = small_by_index a.pack.now (λ i h. omega (arith, c.type_inv.pack i)) in
    record { reads = read-exact a.marked a.pack.now (length a.table.now) small c.read.ensures.value c.read.ensures.table_after; value = c.read.ensures.value }
