use Rattle.lookups.proofs.Spans.{part_lies}
use Rattle.lookups.proofs.part_bytes.Goals as goal

pub bytes_of-requires : goal.bytes_of-requires
bytes_of-requires c =
    let a = c.args in
    part_lies _ a.file.now a.table.words.now a.row.0 _ c.part.ensures
