-- Zeros in the words that are in no used row (01, "The row table": "Every word not in a used row is zero"). Assumes nothing.
use Rattle.std.specs.Prelude.{◌≡◌, ℕ, zero, suc, min, Bool, true, false, cond, List, length}
use Rattle.layout.specs.Rows.{width}
use Rattle.fill.specs.Fill.{cleared, wiped}
use Rattle.table.specs.declared.Grid.{Grid}
use Rattle.table.specs.Grids.{cell_of}

-- the first j columns with zeros from row `used` on
unfoldable pub columns_wiped : Grid → List ℕ → (used j : ℕ) → List ℕ
columns_wiped g w used zero = w
columns_wiped g w used (suc j) = wiped (columns_wiped g w used j) (cell_of g used j) (min (cell_of g g.room j) (length (columns_wiped g w used j)))

-- every column, and what is behind them
unfoldable pub columns_cleared : Grid → List ℕ → (used : ℕ) → List ℕ
columns_cleared g w used = cleared (columns_wiped g w used width) (cell_of g 0 width)

unfoldable pub cleared_behind : Grid → List ℕ → (used : ℕ) → List ℕ
cleared_behind g w used = cond g.columns (columns_cleared g w used) (cleared w (cell_of g used 0))

chosen : (a b : List ℕ) {c : Bool} → c ≡ true → cond c a b ≡ a
chosen a b e = rw e

other : (a b : List ℕ) {c : Bool} → c ≡ false → cond c a b ≡ b
other a b e = rw e

-- by the shape
pub behind_columns : (g : Grid) (w : List ℕ) (used : ℕ) → g.columns ≡ true → cleared_behind g w used ≡ columns_cleared g w used
unfolding cleared_behind
behind_columns g w used e = chosen (columns_cleared g w used) (cleared w (cell_of g used 0)) e

pub behind_rows : (g : Grid) (w : List ℕ) (used : ℕ) → g.columns ≡ false → cleared_behind g w used ≡ cleared w (cell_of g used 0)
unfolding cleared_behind
behind_rows g w used e = other (columns_cleared g w used) (cleared w (cell_of g used 0)) e
