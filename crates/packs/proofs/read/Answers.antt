use Rattle.std.specs.Prelude.{length}
use Rattle.std.proofs.Common.{arith, rules}
use Rattle.pack_layout.specs.Table.{files_room}
use Rattle.pack_layout.specs.Pack.{mark_of}
use Rattle.pack_reading.specs.Pack.{pack_at, pack_of}
use Rattle.packs.proofs.Whole.{cleared_fit, told_cleared}
use Rattle.packs.proofs.read.Goals as goal

pub overflow_mul-files : goal.overflow_mul-files
overflow_mul-files c =
    let a = c.args in
    let x = pack_at (mark_of a.marked) a.pack.now (files_room (length a.table.now)) in
    rw c.unwrap_or-files.ensures (omega (arith, cleared_fit (mark_of a.marked) x _ _ c.read_counted-read.ensures))

pub returns : goal.returns
unfolding pack_of
returns c =
    let a = c.args in
    let x = pack_at (mark_of a.marked) a.pack.now (files_room (length a.table.now)) in
    let t = told_cleared (mark_of a.marked) x _ (length a.table.now) _ (search rules) c.read_counted-read.ensures in
    record { value = t.answers; table_after = rw (c.clear.ensures, c.unwrap_or-files.ensures) t.leaves }
