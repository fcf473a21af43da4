-- One turn of each loop: the places of a row, of the rows from one on, and of the readers from one on. Assumes nothing.
use Rattle.std.specs.Prelude.{◌≡◌, refl, true, false, List, [], ◌∷◌, ◌++◌, length, get_or}
use Rattle.std.proofs.Math.Path.{sym}
use Rattle.std.proofs.Common.{ap, ◌∙◌, eq-eqb, ne_eqb}
use Prim.Native.Nat.{ℕ, zero, suc, ◌+◌, ◌-◌, ◌<◌, ◌≤◌}
use native.Mathlib.Omega.{arith}
use Rattle.layout.specs.Shortest.{numbered}
use Rattle.table.specs.declared.Grid.{Grid}
use Rattle.table.specs.Grids.{cell_of, rows_grid}
use Rattle.reading.specs.Seven.{seven_at}
use Rattle.numbers.specs.Padded.{number_of, past}
use Rattle.places.specs.Places.{id_places, raw_place, count_places, behind_entry, entries_places, entries_end}
use Rattle.rewrite.specs.Table.{row_places, places_in, table_places}

module _ (file : List ℕ) where
  pub count_there : (kind at : ℕ) → kind ≡ 13 → count_places file kind at ≡ at ∷ []
  unfolding count_places
  count_there kind at e = rw (eq-eqb kind 13 e)

  pub no_count : (kind at : ℕ) → (kind ≡ 13 → ⊥) → count_places file kind at ≡ []
  unfolding count_places
  no_count kind at e = rw (ne_eqb kind 13 e)

  -- a row's places, by the words that the code has read
  module _ (table : List ℕ) (g : Grid) (row kind first detail : ℕ) (a : g ≡ rows_grid (length table))
      (k : kind ≡ get_or table (cell_of g row 0) 0) (f : first ≡ get_or table (cell_of g row 1) 0) (d : detail ≡ get_or table (cell_of g row 5) 0) where
    word_is : (j : ℕ) → get_or table (cell_of (rows_grid (length table)) row j) 0 ≡ get_or table (cell_of g row j) 0
    word_is j = ap (λ (h : Grid). get_or table (cell_of h row j) 0) (sym a)

    pub with_id : true ≡ numbered kind detail → places_in file table row ≡ first ∷ count_places file kind (past (seven_at file first) first)
    unfolding places_in row_places id_places raw_place
    with_id n = rw (word_is 0 ∙ sym k, word_is 1 ∙ sym f, word_is 5 ∙ sym d, ← n)

    pub without_id : false ≡ numbered kind detail → places_in file table row ≡ count_places file kind first
    unfolding places_in row_places id_places raw_place
    without_id n = rw (word_is 0 ∙ sym k, word_is 1 ∙ sym f, word_is 5 ∙ sym d, ← n)

  -- the rows from number i on
  pub next_row : (table : List ℕ) (rows i : ℕ) → i < rows → table_places file table (rows - i) i ≡ places_in file table i ++ table_places file table (rows - (i + 1)) (i + 1)
  unfolding table_places
  next_row table rows i h =
      let a : rows - i ≡ suc (rows - (i + 1)) = omega arith in
      let b : suc i ≡ i + 1 = omega arith in
      rw (a, b)

  pub all_rows : (table : List ℕ) (rows : ℕ) → table_places file table (rows - 0) 0 ≡ table_places file table rows 0
  all_rows table rows = let z : rows - 0 ≡ rows = omega arith in rw z

  pub no_row : (table : List ℕ) (rows i : ℕ) → rows ≤ i → table_places file table (rows - i) i ≡ []
  unfolding table_places
  no_row table rows i h = let a : rows - i ≡ 0 = omega arith in rw a

  -- the readers from one at `at` on
  pub next_entry : (left at : ℕ) → 0 < left
      → (entries_places file left at ≡ at ∷ entries_places file (left - 1) (past (seven_at file at) at + number_of (seven_at file at) + 4))
      × (entries_end file left at ≡ entries_end file (left - 1) (past (seven_at file at) at + number_of (seven_at file at) + 4))
  unfolding entries_places entries_end behind_entry
  next_entry zero at h = absurd (omega arith)
  next_entry (suc left) at h = let a : suc left - 1 ≡ left = omega arith in rw a (refl, refl)

  pub no_entry : (left at : ℕ) → left ≤ 0 → (entries_places file left at ≡ []) × (entries_end file left at ≡ at)
  unfolding entries_places entries_end
  no_entry zero at h = (refl, refl)
  no_entry (suc left) at h = absurd (omega arith)
