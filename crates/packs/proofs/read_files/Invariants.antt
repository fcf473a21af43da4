-- `packs::read_files` meets its contract: before each turn the first `i` files are read. Assumes nothing.
use Rattle.std.specs.Prelude.{◌≡◌, length}
use Rattle.pack_layout.specs.Table.{files_room}
use Rattle.pack_layout.specs.Pack.{mark_of}
use Rattle.packs.proofs.Turns.{Reached}
use Rattle.packs.proofs.read_files.Given as goal

abbrev pub invariant-loop-i : goal.invariant-loop-i
invariant-loop-i l = (length l.table ≡ length l.initial.table) × (l.room ≡ files_room (length l.initial.table)) × Reached (mark_of l.marked) l.pack l.n l.room l.table l.i l.at
