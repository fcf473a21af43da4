-- The shape of a table in so many words, and where word j of row i is. Assumes nothing.
use Rattle.std.specs.Prelude.{ℕ, Bool, true, false}
use Rattle.layout.specs.Table.{room_of, shape_of, cell}
use Rattle.table.specs.declared.Grid.{Grid}

-- 01, "The row table": where word j of row i stands in the words of a table
abbrev pub cell_of : Grid → (i j : ℕ) → ℕ
cell_of g i j = cell (shape_of g.columns) g.room i j

abbrev pub grid_of : (words : ℕ) (columns : Bool) → Grid
grid_of words columns = record { room = room_of words; columns = columns }

abbrev pub rows_grid : (words : ℕ) → Grid
rows_grid words = grid_of words false

abbrev pub columns_grid : (words : ℕ) → Grid
columns_grid words = grid_of words true
