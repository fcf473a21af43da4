use native.Mathlib.Omega.{arith}
use Rattle.reading.specs.Reads.{small_by_index}
use lib.ListN.{length}
use Rattle.enums.specs.Lists.{Bytes}
use Rattle.theorems.proofs.Files.{open_exact}
use Rattle.theorems.proofs.packed.open_exact.Goals as goal

pub returns : goal.returns
returns c =
    let a = c.args in
    let small = small_by_index a.pack.now (λ i h. omega (arith, c.type_inv.pack i)) in
    let bytes : Bytes a.enums.now = λ i h. omega (arith, c.type_inv.enums i) in
    record { opens = open_exact a.enums.now a.pack.now a.table.now a.path.now (length a.words.now) bytes small c.load_found.ensures.value c.load_found.ensures.words_after; value = c.load_found.ensures.value }
