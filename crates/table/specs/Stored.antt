-- Rows stored in a table in columns, and zeros behind them, are the columns. Assumes nothing.
use Rattle.std.specs.Prelude.{◌≡◌, ℕ, zero, suc, ◌+◌, ◌-◌, ◌*◌, ◌<◌, ◌≤◌, min, Bool, true, List, [], ◌∷◌, ◌++◌, map, length, take, drop, replicate, slice_index}
use Rattle.std.proofs.Math.Path.{refl, sym, ap}
use Rattle.std.proofs.Common.{subst, ◌∙◌, append_assoc, mul-suc, mul-le-mul_left}
use native.Mathlib.Omega.{arith}
use Rattle.std.proofs.Math.Nat.{mul_comm}
use Rattle.std.proofs.Math.ListN.{length-append, length-drop}
use Rattle.std.proofs.Math.Seq.{ext_get_or, get_or-take, get_or-drop, length-take-le, take-append-add, drop-append-add, drop-drop, take_at}
use Rattle.layout.specs.Rows.{Row, words, width}
use Rattle.layout.specs.Table.{by_columns, shape_of, cell, column, columns_of}
use Rattle.fill.specs.Fill.{cleared, wiped}
use Rattle.table.specs.declared.Grid.{Grid}
use Rattle.table.specs.Stores.{written_rows, Wide, length-rows, rows_at}
use Rattle.table.specs.Cleared.{columns_wiped, columns_cleared}
use Rattle.table.specs.Cells.{length-map, word_of, row_word, columns_from, seven_columns, length_columns, columns_more}

wide_words : (rows : List Row) → Wide (map words rows)
unfolding Wide words
wide_words [] = tt
wide_words (r ∷ rows) = (refl, wide_words rows)

-- word i of a word of each row
word_at : (rows : List Row) (i j : ℕ) → i < length rows → slice_index (map (word_of j) rows) i ≡ row_word rows i j
word_at [] i j h = absurd (omega arith)
word_at (r ∷ rows) zero j h = refl
word_at (r ∷ rows) (suc i) j h = word_at rows i j (omega arith)

abbrev in_columns : (room : ℕ) → Grid
in_columns room = record { room = room; columns = true }

module _ (room : ℕ) (w : List ℕ) (rows : List Row) (fits : length rows ≤ room) (long : width * room ≤ length w) where
  abbrev stored : List ℕ
  stored = written_rows by_columns room w 0 (map words rows)

  length-stored : length stored ≡ length w
  length-stored = length-rows by_columns room w 0 (map words rows)

  before : (j : ℕ) → j < width → room * j + room ≤ length stored
  before j h = omega (arith, length-stored, mul-suc room j, mul-le-mul_left room h, mul_comm room width)

  -- the rows' words of one column
  stored_column : (j : ℕ) → j < width → take (length rows) (drop (room * j) stored) ≡ map (word_of j) rows
  unfolding cell
  stored_column j h =
      let b = before j h in
      let d : length (drop (room * j) stored) ≡ length stored - room * j = length-drop (room * j) stored in
      let n : length (take (length rows) (drop (room * j) stored)) ≡ length rows = length-take-le (length rows) (drop (room * j) stored) (omega arith) in
      ext_get_or 0 (take (length rows) (drop (room * j) stored)) (map (word_of j) rows) (n ∙ sym (length-map (word_of j) rows))
      (λ i l.
      let k : i < length rows = omega arith in
      let z : room * j + i ≡ 0 + i + room * j = omega arith in
      get_or-take (length rows) (drop (room * j) stored) i 0 k ∙ get_or-drop (room * j) stored i 0 ∙ ap (λ (m : ℕ). slice_index stored m) z
      ∙ rows_at by_columns room w 0 (map words rows) i j (wide_words rows) (omega (arith, length-map words rows)) (omega (arith, length-map words rows)) h long
      ∙ sym (word_at rows i j k))

  -- one column of a table whose columns before it are f, and what stands from it on
  wipe_column : (f d : List ℕ) (j : ℕ) → length f ≡ room * j → room ≤ length d
      → wiped (f ++ d) (length rows + room * j) (min (room + room * j) (length (f ++ d))) ≡ (f ++ (take (length rows) d ++ replicate (room - length rows) 0)) ++ drop room d
  unfolding wiped
  wipe_column f d j l r =
      let n : length (f ++ d) ≡ length f + length d = length-append f d in
      let m : min (room + room * j) (length (f ++ d)) ≡ room + room * j = omega arith in
      let a : length rows + room * j ≡ length f + length rows = omega arith in
      let z : room + room * j - (length rows + room * j) ≡ room - length rows = omega arith in
      let e : length rows + room * j + (room - length rows) ≡ length f + room = omega arith in
      rw (m, z, e, drop-append-add f d room, a, take-append-add f d (length rows)) (ap (λ (x : List ℕ). x ++ drop room d) (append_assoc f (take (length rows) d) (replicate (room - length rows) 0)))

  wiped_columns : (j : ℕ) → j ≤ width → columns_wiped (in_columns room) stored (length rows) j ≡ columns_from room rows 0 j ++ drop (room * j) stored
  unfolding columns_wiped columns_from cell column
  wiped_columns zero h = let z : room * 0 ≡ 0 = omega arith in rw z
  wiped_columns (suc j) h =
      let f = columns_from room rows 0 j in
      let d = drop (room * j) stored in
      let b = before j (omega arith) in
      let r : room ≤ length d = omega (arith, length-drop (room * j) stored) in
      let z : 0 + j ≡ j = omega arith in
      let e : drop room d ≡ drop (room * suc j) stored = drop-drop room (room * j) stored ∙ ap (λ (k : ℕ). drop k stored) (sym (mul-suc room j)) in
      rw (wiped_columns j (omega arith)) (wipe_column f d j (length_columns room rows fits 0 j) r
      ∙ rw (stored_column j (omega arith), e, columns_more room rows 0 j, z))

  -- the columns, and zeros behind them
  stored_columns : columns_cleared (in_columns room) stored (length rows) ≡ columns_of room rows ++ replicate (length w - width * room) 0
  unfolding columns_cleared cleared cell
  stored_columns =
      let f = columns_from room rows 0 width in
      let l : length f ≡ room * width = length_columns room rows fits 0 width in
      let d = drop (room * width) stored in
      let n : length (f ++ d) - room * width ≡ length w - width * room = omega (arith, length-append f d, length-drop (room * width) stored, length-stored, mul_comm room width) in
      let z : 0 + room * width ≡ room * width = omega arith in
      rw (wiped_columns width (omega arith), z, n, take_at f d (room * width) l, seven_columns room rows) refl

-- the same of a table of this shape
pub settled_columns : (g : Grid) (w : List ℕ) (rows : List Row) → g.columns ≡ true → length rows ≤ g.room → width * g.room ≤ length w
    → columns_cleared g (written_rows (shape_of g.columns) g.room w 0 (map words rows)) (length rows) ≡ columns_of g.room rows ++ replicate (length w - width * g.room) 0
settled_columns g w rows e fits long =
    subst (λ (b : Bool). columns_cleared (record { room = g.room; columns = b }) (written_rows (shape_of b) g.room w 0 (map words rows)) (length rows) ≡ columns_of g.room rows ++ replicate (length w - width * g.room) 0)
    (sym e) (stored_columns g.room w rows fits long)
