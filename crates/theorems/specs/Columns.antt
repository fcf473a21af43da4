-- Req 08 of the code: what is demanded of a table in columns beside one by rows. Each record is the contract of a function that calls the code. Assumes nothing.
use Rattle.std.specs.Prelude.{◌≡◌, List, ℕ, length}
use Rattle.layout.specs.Table.{room_of, by_rows, by_columns}
use Rattle.table.specs.declared.Grid.{Grid}
use Rattle.table.specs.Grids.{rows_grid, columns_grid}
use Rattle.table.specs.Same.{SameRows}
use Rattle.lookups.specs.Parts.{part_of}
use Rattle.lookups.specs.Texts.{text_of}
use Rattle.lookups.specs.Signs.{signed_of}
use Rattle.lookups.specs.Times.{time_of}
use Rattle.branches.specs.Next.{next_of}
use Rattle.theorems.specs.Loading.{Loads}
use Rattle.theorems.specs.declared.columned.Lookups.{Lookups}
use Rattle.load.specs.Loads.{Loading}
use Rattle.theorems.specs.declared.Two.{Two}

-- For a file that is loaded by rows and in columns: the lent list of enum types, the file, the numbers of words lent, the words as they are left, and the answers.
pub record LoadsBoth (enums file : List ℕ) (words columns : ℕ) (left in_columns : List ℕ) (r : Two Loading) : Type 0 where
  -- each answer and each table is what is demanded of a load
  pub by_rows_lem : Loads by_rows enums file words left r.first
  pub by_columns_lem : Loads by_columns enums file columns in_columns r.second
  -- "Prove that, lent the same room, it gives the same answer and holds the same row at each number as 01's table for every file"
  pub same : room_of words ≡ room_of columns → (r.first ≡ r.second) × SameRows (rows_grid words) (columns_grid columns) left in_columns

-- the answers of all lookups of a row in a table of a shape
abbrev pub looked_up : (g : Grid) (file words : List ℕ) (row : ℕ) → Lookups
looked_up g file words row =
    record { part = part_of g file words row; text = text_of g file words row; signed = signed_of g file words row; time = time_of g file words row; next = next_of g words row }

-- For two tables that hold the same rows, one by rows and one in columns: "lookups over either answer the same"
abbrev pub LooksUp : (words columns : List ℕ) → Two Lookups → Type 0
LooksUp words columns r = SameRows (rows_grid (length words)) (columns_grid (length columns)) words columns → r.first ≡ r.second
