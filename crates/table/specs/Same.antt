-- Two tables, of one shape or of two, that hold the same row at each number (02, Req 08). Assumes nothing.
use Rattle.std.specs.Prelude.{◌≡◌, ℕ, ◌<◌, List, slice_index}
use Rattle.layout.specs.Rows.{width}
use Rattle.table.specs.declared.Grid.{Grid}
use Rattle.table.specs.Grids.{cell_of}

-- "lent the same room, it .. holds the same row at each number"
pub record SameRows (g h : Grid) (v w : List ℕ) : Type 0 where
  pub room : g.room ≡ h.room
  pub rows : (i j : ℕ) → i < g.room → j < width → slice_index v (cell_of g i j) ≡ slice_index w (cell_of h i j)
