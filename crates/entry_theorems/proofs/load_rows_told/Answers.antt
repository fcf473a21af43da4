use mathlib.Core.Bool.{false}
use native.Mathlib.Omega.{arith}
use lib.ListN.{length}
use Rattle.reading.specs.Reads.{small_by_index}
use Rattle.enums.specs.Lists.{Bytes}
use Rattle.entry_theorems.proofs.Laws.{load_told_lem, refusal-told, number-told, load_fills}
use borrow.Author.Rules.{rules}
use Rattle.entry_theorems.proofs.load_rows_told.Goals as goal

pub returns : goal.returns
returns c =
    let a = c.args in
    let file = a.file.now in
    let enums = a.enums.now in
    let n = length a.words.now in
    let bytes : Bytes enums = λ i h. omega (arith, c.type_inv.enums i) in
    let small = small_by_index file (λ i h. omega (arith, c.type_inv.file i)) in
    let e = number-told enums file n false bytes small c.xnb_load_rows.ensures.padding_after c.xnb_load_rows.ensures.words_after in
    record { tells_load = load_told_lem enums file n bytes small e; tells_refusal = refusal-told enums file n bytes small e; fills = load_fills enums file n false bytes small c.xnb_load_rows.ensures.padding_after c.xnb_load_rows.ensures.words_after }
