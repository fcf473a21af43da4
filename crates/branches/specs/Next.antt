-- The row behind a row and all below it (02, Req 09). Assumes nothing.
use Rattle.std.specs.Prelude.{◌≡◌, refl, Bool, true, false, cond, List, ℕ, ◌+◌, ltb, leb, length, get_or}
use Rattle.std.proofs.Common.{sym, ap, ◌∙◌, arith, ltb-true}
use Rattle.table.specs.declared.Grid.{Grid}
use Rattle.table.specs.Grids.{cell_of, rows_grid, columns_grid}
use Rattle.table.specs.Same.{SameRows}

-- a row's seventh word
unfoldable pub branch_in : Grid → (words : List ℕ) (row : ℕ) → ℕ
branch_in g words row = get_or words (cell_of g row 6) 0

-- the number of the row behind a row and all below it, or 0 where the row is not below the room or its seventh word is 0 or ends past the room
unfoldable pub next_of : Grid → (words : List ℕ) (row : ℕ) → ℕ
next_of g words row =
    cond (ltb row g.room)
    (cond (ltb 0 (branch_in g words row))
    (cond (leb (row + branch_in g words row) g.room) (row + branch_in g words row) 0) 0) 0

-- the same in a table by rows
abbrev pub rows_next : (words : List ℕ) (row : ℕ) → ℕ
rows_next words row = next_of (rows_grid (length words)) words row

-- and in a table in columns
abbrev pub columns_next : (words : List ℕ) (row : ℕ) → ℕ
columns_next words row = next_of (columns_grid (length words)) words row

-- "lookups over either answer the same"
pub same_next : {g h : Grid} {v w : List ℕ} → SameRows g h v w → (row : ℕ) → next_of g v row ≡ next_of h w row
unfolding next_of branch_in
same_next {g} {h} {v} {w} s row = go (ltb row g.room) refl where
  by : (room branch : ℕ) → ℕ
  by room branch = cond (ltb row room) (cond (ltb 0 branch) (cond (leb (row + branch) room) (row + branch) 0) 0) 0

  go : (b : Bool) → ltb row g.room ≡ b → by g.room (branch_in g v row) ≡ by h.room (branch_in h w row)
  go true e = ap (λ (r : ℕ). by r (branch_in g v row)) s.room ∙ ap (by h.room) (s.rows row 6 (ltb-true row g.room e) (omega arith))
  go false e = let e₂ : ltb row h.room ≡ false = sym (ap (λ (r : ℕ). ltb row r) s.room) ∙ e in rw (e, e₂)
