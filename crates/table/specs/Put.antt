-- One row put into the words of a table (01, "The row table"). Assumes nothing.
use Rattle.std.specs.Prelude.{◌≡◌, ℕ, cond, List, length, nat_lt, slice_set, refl}
use Rattle.layout.specs.Rows.{Row, row, words}
use Rattle.layout.specs.Table.{shape_of}
use Rattle.table.specs.declared.Grid.{Grid}
use Rattle.table.specs.declared.RowWords.{RowWords}
use Rattle.table.specs.Grids.{cell_of}
use Rattle.table.specs.Stores.{puts}

-- a row by the words that the code has of it
abbrev pub row_of : RowWords → Row
row_of r = row r.kind r.first r.bytes r.children r.parent r.detail r.branch

-- one row's words, where the words have its last one; else they stay
unfoldable pub put_row : Grid → List ℕ → (u : ℕ) → Row → List ℕ
put_row g w u r = cond (nat_lt (cell_of g u 6) (length w)) (puts (shape_of g.columns) g.room w u 0 (words r)) w

-- seven stores into the cells of a row
pub seven : (g : Grid) (w : List ℕ) (u k f b c p d n : ℕ)
    → slice_set (slice_set (slice_set (slice_set (slice_set (slice_set (slice_set w (cell_of g u 0) k) (cell_of g u 1) f) (cell_of g u 2) b) (cell_of g u 3) c) (cell_of g u 4) p) (cell_of g u 5) d) (cell_of g u 6) n
    ≡ puts (shape_of g.columns) g.room w u 0 (words (row k f b c p d n))
unfolding puts words
seven g w u k f b c p d n = refl
