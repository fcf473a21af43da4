-- Req 08 of the code: the bytes of a part and of a text, over a table in columns beside one by rows. Assumes nothing.
use Rattle.std.specs.Prelude.{◌≡◌, List, ℕ, length, Result}
use Rattle.table.specs.declared.Grid.{Grid}
use Rattle.table.specs.Grids.{rows_grid, columns_grid}
use Rattle.table.specs.Same.{SameRows}
use Rattle.lookups.specs.Parts.{spanned}
use Rattle.answers.specs.declared.Refusal.{Refusal}
use Rattle.lookups.specs.declared.Span.{Span}

-- For a lookup of a span, and two tables that hold the same rows, one by rows and one in columns: "lookups over either answer the same".
-- The bytes are those of the span that the table by rows names, whichever of the two was asked.
abbrev pub SameBytes : (lookup : (g : Grid) (file words : List ℕ) (row : ℕ) → Result Span Refusal) (file words columns : List ℕ) (row : ℕ) (bytes : List ℕ) → Type 0
SameBytes lookup file words columns row bytes =
    SameRows (rows_grid (length words)) (columns_grid (length columns)) words columns → bytes ≡ spanned file (lookup (rows_grid (length words)) file words row)
