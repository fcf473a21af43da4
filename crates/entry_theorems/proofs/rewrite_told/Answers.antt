use native.Mathlib.Omega.{arith}
use lib.ListN.{length}
use Rattle.reading.specs.Reads.{small_by_index}
use Rattle.enums.specs.Lists.{Bytes}
use Rattle.entry_theorems.proofs.Laws.{rewrite_told, rewrite_refusal-told}
use borrow.Author.Rules.{rules}
use Rattle.entry_theorems.proofs.rewrite_told.Goals as goal

pub returns : goal.returns
returns c =
    let a = c.args in
    let file = a.file.now in
    let enums = a.enums.now in
    let bytes : Bytes enums = λ i h. omega (arith, c.type_inv.enums i) in
    let small = small_by_index file (λ i h. omega (arith, c.type_inv.file i)) in
    let n = length a.words.now in
    let out = a.out.now in
    let e = c.xnb_rewrite.ensures in
    record {
      tells_rewrite = rewrite_told enums file n out bytes small e.value e.out_after e.words_after;
      tells_rewrite_refusal = rewrite_refusal-told enums file n out bytes small e.value e.out_after e.words_after;
    }
