-- The word of a row in a table of either shape, 0 where there is no row. Assumes nothing.
use Rattle.std.specs.Prelude.{◌≡◌, ℕ, zero, suc, ◌+◌, ◌*◌, ◌<◌, ◌≤◌, List, [], ◌∷◌, ◌++◌, length, replicate, slice_index, refl}
use Rattle.std.proofs.Common.{arith}
use Rattle.std.proofs.Math.ListN.{get_or-append}
use Rattle.layout.specs.Rows.{Row, words, flat, width}
use Rattle.layout.specs.Table.{by_columns, cell, columns_of}
use Rattle.table.specs.Cells.{row_word, seven_columns, columns_at}

-- a word of zeros
pub zero_word : (n i : ℕ) → ◌≡◌ {A = ℕ} (slice_index (replicate n 0) i) 0
zero_word zero i = refl
zero_word (suc n) zero = refl
zero_word (suc n) (suc i) = zero_word n i

-- word j of row i by rows
pub row_word_lem : (rows : List Row) (n i j : ℕ) → j < width → slice_index (flat rows ++ replicate n 0) (width * i + j) ≡ row_word rows i j
unfolding flat words
row_word_lem [] n i j k = zero_word n (width * i + j)
row_word_lem (r ∷ rows) n zero j k =
    let z : width * 0 + j ≡ j = omega arith in
    rw z (get_or-append (words r) (flat rows ++ replicate n 0) 0 j k)
row_word_lem (r ∷ rows) n (suc i) j k =
    let z : width * suc i + j ≡ suc (suc (suc (suc (suc (suc (suc (width * i + j))))))) = omega arith in
    rw z (row_word_lem rows n i j k)

-- and in columns
pub column-word : (room : ℕ) (rows : List Row) → length rows ≤ room → (rest : List ℕ) (i j : ℕ) → i < room → j < width
    → slice_index (columns_of room rows ++ rest) (cell by_columns room i j) ≡ row_word rows i j
unfolding cell
column-word room rows fits rest i j h k =
    let z : 0 + j ≡ j = omega arith in
    rw (seven_columns room rows) (rw z at (columns_at room rows fits rest i 0 width j h k))
