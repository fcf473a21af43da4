-- The word of a row in a table in columns. Assumes nothing.
use Rattle.std.specs.Prelude.{◌≡◌, ℕ, zero, suc, ◌+◌, ◌-◌, ◌*◌, ◌<◌, ◌≤◌, List, [], ◌∷◌, ◌++◌, map, length, replicate, slice_index, slice_index_or}
use Rattle.std.proofs.Math.Path.{refl, sym, ap}
use Rattle.std.proofs.Common.{◌∙◌, get_or-append-add}
use mathlib.Core.List.{append_assoc, append-nil}
use native.Mathlib.Omega.{arith}
use Rattle.std.proofs.Math.Nat.{mul-suc}
use Rattle.std.proofs.Math.ListN.{length-append, length-replicate, get_or-append}
use Rattle.std.proofs.lemmas.List.{get_or-replicate}
use Rattle.layout.specs.Rows.{Row, words, width}
use Rattle.layout.specs.Table.{column, columns_of}

pub length-map : {A B : Type 0} (f : A → B) (l : List A) → length (map f l) ≡ length l
length-map f [] = refl
length-map f (x ∷ l) = ap suc (length-map f l)

-- word j of a row
abbrev pub word_of : (j : ℕ) → Row → ℕ
word_of j r = slice_index (words r) j

-- word j of row i, 0 where there is no row
abbrev pub row_word : List Row → (i j : ℕ) → ℕ
row_word rows i j = slice_index (slice_index_or (map words rows) i []) j

-- k columns from column j on
unfoldable pub columns_from : (room : ℕ) → List Row → (j k : ℕ) → List ℕ
columns_from room rows j zero = []
columns_from room rows j (suc k) = column room (word_of j) rows ++ columns_from room rows (suc j) k

module _ (room : ℕ) (rows : List Row) where
  -- the seven columns
  pub seven_columns : columns_of room rows ≡ columns_from room rows 0 width
  unfolding columns_of columns_from words
  seven_columns = simp (append_assoc, append-nil)

  pub length-column : (word : Row → ℕ) → length rows ≤ room → length (column room word rows) ≡ room
  unfolding column
  length-column word h = length-append (map word rows) (replicate (room - length rows) 0) ∙ rw (length-map word rows, length-replicate {A = ℕ} (room - length rows) 0) (omega arith)

  pub length_columns : length rows ≤ room → (j k : ℕ) → length (columns_from room rows j k) ≡ room * k
  unfolding columns_from
  length_columns h j zero = omega arith
  length_columns h j (suc k) =
      length-append (column room (word_of j) rows) (columns_from room rows (suc j) k) ∙ omega (arith, length-column (word_of j) h, length_columns h (suc j) k, mul-suc room k)

  -- one more column behind
  pub columns_more : (j k : ℕ) → columns_from room rows j (suc k) ≡ columns_from room rows j k ++ column room (word_of (j + k)) rows
  unfolding columns_from
  columns_more j zero =
      let z : j + 0 ≡ j = omega arith in
      rw (z, append-nil (column room (word_of j) rows)) refl
  columns_more j (suc k) =
      let z : suc j + k ≡ j + suc k = omega arith in
      let e = rw z at (columns_more (suc j) k) in
      ap (λ (l : List ℕ). column room (word_of j) rows ++ l) e ∙ sym (append_assoc (column room (word_of j) rows) (columns_from room rows (suc j) k) (column room (word_of (j + suc k)) rows))

-- word i of a column
pub in_column : (n : ℕ) (rows : List Row) (i j : ℕ) → i < length rows + n → slice_index (map (word_of j) rows ++ replicate n 0) i ≡ row_word rows i j
in_column n [] i j h = get_or-replicate n i 0 0 (omega arith)
in_column n (r ∷ rows) zero j h = refl
in_column n (r ∷ rows) (suc i) j h = in_column n rows i j (omega arith)

module _ (room : ℕ) (rows : List Row) (fits : length rows ≤ room) where
  -- word j + m of row i stands in column m
  pub columns_at : (rest : List ℕ) (i j k m : ℕ) → i < room → m < k → slice_index (columns_from room rows j k ++ rest) (i + room * m) ≡ row_word rows i (j + m)
  unfolding columns_from column
  columns_at rest i j zero m h l = absurd (omega arith)
  columns_at rest i j (suc k) zero h l =
      let a = column room (word_of j) rows in
      let z : i + room * 0 ≡ i = omega arith in
      let y : j + 0 ≡ j = omega arith in
      let e : (a ++ columns_from room rows (suc j) k) ++ rest ≡ a ++ (columns_from room rows (suc j) k ++ rest) = append_assoc a (columns_from room rows (suc j) k) rest in
      rw (z, y, e) (get_or-append a (columns_from room rows (suc j) k ++ rest) 0 i (omega (arith, length-column room rows (word_of j) fits)) ∙ in_column (room - length rows) rows i j (omega arith))
  columns_at rest i j (suc k) (suc m) h l =
      let a = column room (word_of j) rows in
      let e : (a ++ columns_from room rows (suc j) k) ++ rest ≡ a ++ (columns_from room rows (suc j) k ++ rest) = append_assoc a (columns_from room rows (suc j) k) rest in
      let z : i + room * suc m ≡ length a + (i + room * m) = omega (arith, length-column room rows (word_of j) fits, mul-suc room m) in
      let y : suc j + m ≡ j + suc m = omega arith in
      rw (e, z, ← y) (get_or-append-add a (columns_from room rows (suc j) k ++ rest) (i + room * m) 0 ∙ columns_at rest i (suc j) k m h (omega arith))
