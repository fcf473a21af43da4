use Rattle.std.proofs.Common.{◌≡◌, false, ltb, length, arith, le-ltb}
use Rattle.table.specs.Grids.{cell_of}
use Rattle.table.specs.Put.{put_row}
use Rattle.table.proofs.put_cells.Goals as goal

pub returns-else-cell-words : goal.returns-else-cell-words
unfolding put_row
returns-else-cell-words c =
    let a = c.args in
    let t : ltb (cell_of a.grid a.row.0 6) (length a.words.now) ≡ false = le-ltb (cell_of a.grid a.row.0 6) (length a.words.now) (omega (arith, c.cell.ensures, c.if-cell-words.false)) in
    rw t
