use native.Mathlib.Omega.{arith}
use Rattle.reading.specs.Reads.{small_by_index}
use Rattle.lookups.proofs.Spans.{text_lies}
use Rattle.lookups.proofs.text_bytes.Goals as goal

pub bytes_of-requires : goal.bytes_of-requires
bytes_of-requires c =
    let a = c.args in
    text_lies _ a.file.now a.table.words.now a.row.0 (small_by_index a.file.now (λ i h. omega (arith, c.type_inv.file i))) _ c.text.ensures
