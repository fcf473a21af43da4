use Rattle.std.specs.Prelude.{◌≡◌, Bool, true, false, cond, List, ℕ, length}
use Rattle.std.proofs.Common.{refl, sym, ap, ◌∙◌}
use Rattle.table.specs.Grids.{rows_grid, columns_grid}
use Rattle.lookups.specs.Parts.{spanned}
use Rattle.lookups.specs.Texts.{text_of}
use Rattle.lookups.specs.Same.{same_text}
use Rattle.table.specs.Same.{SameRows}
use Rattle.theorems.proofs.spanned.text_bytes_either.Goals as goal

-- whichever of two tables with the same rows is asked
asked : (b : Bool) (file words columns : List ℕ) (row : ℕ) → SameRows (rows_grid (length words)) (columns_grid (length columns)) words columns
    → text_of (cond b (columns_grid (length columns)) (rows_grid (length words))) file (cond b columns words) row ≡ text_of (rows_grid (length words)) file words row
asked true file words columns row s = sym (same_text s file row)
asked false file words columns row s = refl

pub returns : goal.returns
returns c =
    λ s.
    let a = c.args in
    rw (c.either.ensures.grid, c.either.ensures.words) at c.text_bytes.ensures ∙ ap (spanned a.file.now) (asked a.in_columns a.file.now a.words.now a.columns.now a.row.0 s)
