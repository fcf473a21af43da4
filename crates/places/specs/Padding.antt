-- How many bytes the seven-bit numbers at some places have beyond their shortest forms (02, Req 06: "The loader's answer gains the file's total"), and its laws. Assumes nothing.
use Rattle.std.specs.Prelude.{◌≡◌, Bool, true, false, cond, eqb, length, get_or}
use Rattle.std.proofs.Math.Path.{refl, ap}
use Rattle.std.proofs.Common.{◌∙◌, ne_eqb}
use mathlib.Core.List.{List, [], ◌∷◌, ◌++◌, append_assoc}
use Prim.Native.Nat.{ℕ, zero, suc, ◌+◌, ◌*◌, ◌≤◌, ◌<◌}
use native.Mathlib.Omega.{arith}
use Rattle.std.proofs.Math.ListN.{length-append}
use Rattle.layout.specs.Number.{Groups, last, more}
use Rattle.layout.specs.Fixed.{sizes}
use Rattle.layout.specs.Rows.{Row}
use Rattle.layout.specs.Shortest.{numbered}
use Rattle.reading.specs.Answer.{Answer, refused, read}
use Rattle.reading.specs.Reads.{Small, next_of}
use Rattle.reading.specs.Seven.{seven_at, seven_reads, some_bytes}
use Rattle.numbers.specs.Shortest.{shortest_is}
use Rattle.numbers.specs.Padded.{past, pad_of}
use Rattle.places.specs.Places.{id_places, raw_place, count_places, rows_places, entries_places, entries_end, lists_places, file_places}

module _ (file : List ℕ) where
  unfoldable pub padding : List ℕ → ℕ
  padding [] = 0
  padding (at ∷ places) = pad_of (seven_at file at) at + padding places

  -- of rows
  abbrev pub rows_padding : List Row → ℕ
  rows_padding rows = padding (rows_places file rows)

  -- of a file with so many readers and these rows
  abbrev pub file_padding : (readers : ℕ) → List Row → ℕ
  file_padding readers rows = padding (file_places file readers rows)

  pub padding-append : (a b : List ℕ) → padding (a ++ b) ≡ padding a + padding b
  unfolding padding
  padding-append [] b = omega arith
  padding-append (at ∷ a) b = omega (arith, padding-append a b)

  pub one_padding : (at : ℕ) → padding (at ∷ []) ≡ pad_of (seven_at file at) at
  unfolding padding
  one_padding at = omega arith

  pub none-padding : padding [] ≡ 0
  unfolding padding
  none-padding = refl

  -- ---- Rows

  pub places_append : (a b : List Row) → rows_places file (a ++ b) ≡ rows_places file a ++ rows_places file b
  unfolding rows_places
  places_append [] b = refl
  places_append (r ∷ a) b = rw (places_append a b) (simp append_assoc)

  pub no_rows : rows_padding [] ≡ 0
  unfolding rows_places padding
  no_rows = refl

  pub rows_append : (a b : List Row) → rows_padding (a ++ b) ≡ rows_padding a + rows_padding b
  rows_append a b = ap padding (places_append a b) ∙ padding-append (rows_places file a) (rows_places file b)

  -- a value without an id, and one with an id: the padding of the id, and where the raw value starts
  pub without_id : (kind first detail : ℕ) → numbered kind detail ≡ false → (padding (id_places file kind first detail) ≡ 0) × (raw_place file kind first detail ≡ first)
  unfolding id_places raw_place padding
  without_id kind first detail e = rw e (refl, refl)

  pub with_id : (kind first detail : ℕ) → numbered kind detail ≡ true
      → (padding (id_places file kind first detail) ≡ pad_of (seven_at file first) first) × (raw_place file kind first detail ≡ past (seven_at file first) first)
  unfolding id_places raw_place
  with_id kind first detail e = rw e (one_padding first, refl)

  -- of a value of a kind that has no number without an id: where its id ends, and the id's padding
  unfoldable pub id_end : (first id : ℕ) → ℕ
  id_end first zero = first
  id_end first (suc i) = past (seven_at file first) first

  unfoldable pub id_pad : (first id : ℕ) → ℕ
  id_pad first zero = 0
  id_pad first (suc i) = pad_of (seven_at file first) first

  pub id_of : (kind first id : ℕ) → numbered kind 0 ≡ false → (padding (id_places file kind first id) ≡ id_pad first id) × (raw_place file kind first id ≡ id_end first id)
  unfolding id_end id_pad numbered
  id_of kind first zero e = without_id kind first 0 e
  id_of kind first (suc i) e = with_id kind first (suc i) refl

  -- a value without a count, and a text
  pub without_count : (kind at : ℕ) → eqb kind 13 ≡ false → padding (count_places file kind at) ≡ 0
  unfolding count_places padding
  without_count kind at e = rw e

  pub with_count : (kind at : ℕ) → eqb kind 13 ≡ true → padding (count_places file kind at) ≡ pad_of (seven_at file at) at
  unfolding count_places
  with_count kind at e = rw e (one_padding at)

  -- a row before others: its id and its count
  pub row_first : (r : Row) (rows : List Row)
      → rows_padding (r ∷ rows)
      ≡ padding (id_places file r.kind r.first r.detail) + (padding (count_places file r.kind (raw_place file r.kind r.first r.detail)) + rows_padding rows)
  unfolding rows_places
  row_first r rows =
      let ids = id_places file r.kind r.first r.detail in
      let counts = count_places file r.kind (raw_place file r.kind r.first r.detail) in
      padding-append ids (counts ++ rows_places file rows) ∙ ap (λ (n : ℕ). padding ids + n) (padding-append counts (rows_places file rows))

  -- a row alone, of a value that is its id and no text, and of one that has no number
  pub id_alone : (r : Row) → numbered r.kind r.detail ≡ true → eqb r.kind 13 ≡ false → rows_padding (r ∷ []) ≡ pad_of (seven_at file r.first) r.first
  id_alone r i c = omega (arith, row_first r [], (with_id r.kind r.first r.detail i).0, without_count r.kind (raw_place file r.kind r.first r.detail) c, no_rows)

  pub no_number : (r : Row) → numbered r.kind r.detail ≡ false → eqb r.kind 13 ≡ false → rows_padding (r ∷ []) ≡ 0
  no_number r i c = omega (arith, row_first r [], (without_id r.kind r.first r.detail i).0, without_count r.kind (raw_place file r.kind r.first r.detail) c, no_rows)

  -- ---- The reader list

  pub lists_padding : (n at : ℕ) → let first = past (seven_at file at) at in
      padding (lists_places file n at) ≡ pad_of (seven_at file at) at + (padding (entries_places file n first) + pad_of (seven_at file (entries_end file n first)) (entries_end file n first))
  unfolding lists_places padding
  lists_padding n at =
      let first = past (seven_at file at) at in
      let end = entries_end file n first in
      ap (λ (k : ℕ). pad_of (seven_at file at) at + k) (padding-append (entries_places file n first) (end ∷ []) ∙ ap (λ (k : ℕ). padding (entries_places file n first) + k) (one_padding end))

  pub file_padding_lem : (readers : ℕ) (rows : List Row) → file_padding readers rows ≡ padding (lists_places file readers 10) + rows_padding rows
  unfolding file_places
  file_padding_lem readers rows = padding-append (lists_places file readers 10) (rows_places file rows)

-- ---- Which kinds have numbers

pub reference-numbered : (id : ℕ) → numbered 36 id ≡ true
unfolding numbered
reference-numbered zero = refl
reference-numbered (suc i) = refl

-- a kind with a size is none of the kinds that have none
pub sized_not : (k j : ℕ) → 0 < get_or sizes k 0 → get_or sizes j 0 ≡ 0 → eqb k j ≡ false
sized_not k j h q = ne_eqb k j (λ e. let z : get_or sizes k 0 ≡ 0 = rw e q in omega arith)

-- so a raw value of a kind with a size has no number
pub sized-plain : (k : ℕ) → 0 < get_or sizes k 0 → (numbered k 0 ≡ false) × (eqb k 13 ≡ false)
unfolding numbered sizes
sized-plain k h = (rw (sized_not k 0 h refl, sized_not k 36 h refl), sized_not k 13 h refl)

-- ---- How much it can be

five_groups : {k n : ℕ} {bs : List ℕ} → Groups k n bs → length bs ≤ k
five_groups (last h) = omega arith
five_groups (more h g) = let l = five_groups g in omega arith

module _ (file : List ℕ) (small : Small file) where
  -- a number ends at most five bytes on
  pub past_few : (at : ℕ) → past (seven_at file at) at ≤ at + 5
  unfolding past
  past_few at = go (seven_at file at) refl where
    go : (x : Answer ℕ) → seven_at file at ≡ x → past x at ≤ at + 5
    go (refused n p) e = omega arith
    go (read n next) e =
        let w = next_of (seven_reads file) small at e in
        omega (arith, w.behind, five_groups w.laid.1)

  -- and its shortest form has one byte at least
  pub pad_few : (at : ℕ) → pad_of (seven_at file at) at ≤ 4
  unfolding pad_of past
  pad_few at = go (seven_at file at) refl where
    go : (x : Answer ℕ) → seven_at file at ≡ x → pad_of x at ≤ 4
    go (refused n p) e = omega arith
    go (read n next) e =
        let w = next_of (seven_reads file) small at e in
        omega (arith, rw e at (past_few at), some_bytes (shortest_is n w.form w.laid).form.1)

  padding_few : (places : List ℕ) → padding file places ≤ 4 * length places
  unfolding padding
  padding_few [] = omega arith
  padding_few (at ∷ places) = let l = padding_few places in omega (arith, pad_few at)

  -- one number to a test that holds
  one_place : (b : Bool) (at : ℕ) → length (cond b (at ∷ []) []) ≤ 1
  one_place true at = omega arith
  one_place false at = omega arith

  rows_few : (rows : List Row) → length (rows_places file rows) ≤ 2 * length rows
  unfolding rows_places id_places count_places
  rows_few [] = omega arith
  rows_few (r ∷ rows) =
      let i = one_place (numbered r.kind r.detail) r.first in
      let at = raw_place file r.kind r.first r.detail in
      let c = one_place (eqb r.kind 13) at in
      let ids = id_places file r.kind r.first r.detail in
      let counts = count_places file r.kind at in
      omega (arith, rows_few rows, length-append ids (counts ++ rows_places file rows), length-append counts (rows_places file rows))

  entries_few : (n at : ℕ) → length (entries_places file n at) ≡ n
  unfolding entries_places
  entries_few zero at = refl
  entries_few (suc n) at = ap suc (entries_few n _)

  -- two numbers to a row, one to a name, and two more
  pub file_few : (readers : ℕ) (rows : List Row) → file_padding file readers rows ≤ 8 * length rows + 4 * readers + 8
  unfolding file_places lists_places
  file_few readers rows =
      let first = past (seven_at file 10) 10 in
      let end = entries_end file readers first in
      omega (
        arith,
        padding_few (file_places file readers rows),
        rows_few rows,
        entries_few readers first,
        length-append (lists_places file readers 10) (rows_places file rows),
        length-append (entries_places file readers first) (end ∷ []),
      )
