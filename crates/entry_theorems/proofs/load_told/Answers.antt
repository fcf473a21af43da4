use mathlib.Core.List.{[]}
use Prim.Native.Nat.{◌*◌}
use native.Mathlib.Omega.{arith}
use Rattle.layout.specs.Rows.{width}
use Rattle.reading.specs.Reads.{small_by_index}
use Rattle.enums.specs.Lists.{Bytes}
use Rattle.entry_theorems.proofs.Laws.{load_told_lem, refusal-told}
use borrow.Author.Rules.{rules}
use Rattle.entry_theorems.proofs.load_told.Goals as goal

pub returns : goal.returns
returns c =
    let file = c.args.file.now in
    let bytes : Bytes [] = λ i h. absurd (omega arith) in
    let small = small_by_index file (λ i h. omega (arith, c.type_inv.file i)) in
    record { tells_load = load_told_lem [] file (1024 * width) bytes small c.xnb_load.ensures; tells_refusal = refusal-told [] file (1024 * width) bytes small c.xnb_load.ensures }
