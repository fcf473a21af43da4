-- Where the seven-bit numbers of a loaded file start, by the words of its table. Assumes nothing.
use Rattle.std.specs.Prelude.{◌≡◌, get_or}
use Rattle.std.proofs.Math.Path.{refl, sym, ap}
use Rattle.std.proofs.Common.{◌∙◌, arith}
use mathlib.Core.List.{List, [], ◌∷◌, ◌++◌, append_assoc}
use Prim.Native.Nat.{ℕ, zero, suc, ◌+◌, ◌*◌}
use Rattle.std.proofs.Math.ListN.{length, length-append}
use Rattle.layout.specs.Rows.{Row, words, width, flat}
use Rattle.layout.specs.Table.{cell}
use Rattle.table.specs.Grids.{cell_of, rows_grid}
use Rattle.places.specs.Places.{id_places, raw_place, count_places, rows_places, lists_places, file_places}

module _ (file : List ℕ) where
  -- of a row, by three of its words
  unfoldable pub row_places : (kind first detail : ℕ) → List ℕ
  row_places kind first detail = id_places file kind first detail ++ count_places file kind (raw_place file kind first detail)

  module _ (table : List ℕ) where
    -- word j of the row with the number i, in a table by rows
    abbrev word_in : (i j : ℕ) → ℕ
    word_in i j = get_or table (cell_of (rows_grid (length table)) i j) 0

    -- of the row with the number i
    unfoldable pub places_in : (i : ℕ) → List ℕ
    places_in i = row_places (word_in i 0) (word_in i 1) (word_in i 5)

    -- of n rows, the first of which has the number i
    unfoldable pub table_places : (n i : ℕ) → List ℕ
    table_places zero i = []
    table_places (suc n) i = places_in i ++ table_places n (suc i)

    -- of a file with so many readers and rows
    unfoldable pub places_of : (readers rows : ℕ) → List ℕ
    places_of readers rows = lists_places file readers 10 ++ table_places rows 0

-- a word of the row behind some words
get_d_behind : (before l : List ℕ) (k : ℕ) → get_or (before ++ l) (length before + k) 0 ≡ get_or l k 0
get_d_behind [] l k = let z : 0 + k ≡ k = omega arith in rw z
get_d_behind (b ∷ before) l k = let z : suc (length before) + k ≡ suc (length before + k) = omega arith in rw z (get_d_behind before l k)

module _ (file : List ℕ) where
  -- the row behind i rows
  row_here : (before l : List ℕ) (i : ℕ) (r : Row) → length before ≡ width * i → places_in file (before ++ (words r ++ l)) i ≡ row_places file r.kind r.first r.detail
  unfolding places_in cell words
  row_here before l i r e = rw (← e, get_d_behind before (words r ++ l) 0, get_d_behind before (words r ++ l) 1, get_d_behind before (words r ++ l) 5)

  places_from : (before : List ℕ) (i : ℕ) (rows : List Row) (rest : List ℕ) → length before ≡ width * i
      → table_places file (before ++ (flat rows ++ rest)) (length rows) i ≡ rows_places file rows
  unfolding table_places rows_places row_places flat words
  places_from before i [] rest e = refl
  places_from before i (r ∷ rows) rest e =
      let l : length (before ++ words r) ≡ width * suc i = omega (arith, length-append before (words r)) in
      let m : before ++ (words r ++ (flat rows ++ rest)) ≡ (before ++ words r) ++ (flat rows ++ rest) = sym (append_assoc before (words r) (flat rows ++ rest)) in
      let here = row_places file r.kind r.first r.detail in
      let table = before ++ (words r ++ (flat rows ++ rest)) in
      ap (λ (x : List ℕ). x ++ table_places file table (length rows) (suc i)) (row_here before (flat rows ++ rest) i r e)
      ∙ ap (λ (x : List ℕ). here ++ table_places file x (length rows) (suc i)) m
      ∙ ap (λ (x : List ℕ). here ++ x) (places_from (before ++ words r) (suc i) rows rest l)
      ∙ append_assoc (id_places file r.kind r.first r.detail) (count_places file r.kind (raw_place file r.kind r.first r.detail)) (rows_places file rows)

  -- the table's words say the same places as the rows
  pub table_places_lem : (rows : List Row) (rest : List ℕ) (readers : ℕ) → places_of file (flat rows ++ rest) readers (length rows) ≡ file_places file readers rows
  unfolding places_of file_places
  table_places_lem rows rest readers = rw (places_from [] 0 rows rest refl)
