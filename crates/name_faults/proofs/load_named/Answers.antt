use lib.ListN.{length}
use native.Mathlib.Omega.{arith}
use Rattle.reading.specs.Reads.{small_by_index}
use borrow.Author.Rules.{rules}
use Rattle.name_faults.proofs.Laws.{names}
use Rattle.name_faults.proofs.load_named.Goals as goal

pub returns : goal.returns
returns c =
    let a = c.args in
    let file = a.file.now in
    let small = small_by_index file (λ i h. omega (arith, c.type_inv.file i)) in
    let e = c.load.ensures.value in
    record { names = names a.enums.now file (length a.words.now) (λ i h. omega (arith, c.type_inv.enums i)) small e; value = e }
