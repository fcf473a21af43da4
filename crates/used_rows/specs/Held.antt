-- Rows that a table holds, as the code reads them by their numbers. Assumes nothing.
use Rattle.std.specs.Prelude.{◌≡◌, refl, Bool, List, [], ◌∷◌, map, ℕ, zero, suc, ◌+◌, ◌<◌, ◌≤◌, length, drop, get_or, Option}
use Rattle.std.proofs.Common.{arith}
use Rattle.std.proofs.Math.Seq.{drop-nil}
use Rattle.layout.specs.Rows.{Row, words, width}
use Rattle.table.specs.declared.Grid.{Grid}
use Rattle.table.specs.Grids.{cell_of}
use Rattle.profile.specs.Offences.{next, skip, kind_of, detail_of}
use Rattle.profile.specs.Profile.{first_of}
use Rattle.fault_places.specs.Places.{first_place}

-- word j of row i; 0 where there is none
unfoldable pub word_in : List Row → (i j : ℕ) → ℕ
word_in rows i j = get_or (get_or (map words rows) i []) j 0

-- the table holds so many rows, in this order
pub record Held (g : Grid) (table : List ℕ) (used : ℕ) (rows : List Row) : Type 0 where
  pub count : length rows ≡ used
  pub cells : (i j : ℕ) → i < length rows → j < width → get_or table (cell_of g i j) 0 ≡ word_in rows i j

-- the row number r is that of the row behind row i and all below it
pub record Follows (g : Grid) (table : List ℕ) (used i r : ℕ) : Type 0 where
  pub few : r ≤ used
  pub behind : (rows : List Row) → Held g table used rows → drop r rows ≡ next (drop i rows)

-- the row number r is that of the n-th value behind row i
pub record Skips (g : Grid) (table : List ℕ) (used n i r : ℕ) : Type 0 where
  pub few : r ≤ used
  pub behind : (rows : List Row) → Held g table used rows → drop r rows ≡ skip n (drop i rows)

-- a number that a table's rows tell
abbrev pub Tells : Grid → (table : List ℕ) (used : ℕ) → (List Row → ℕ) → ℕ → Type 0
Tells g table used f r = (rows : List Row) → Held g table used rows → r ≡ f rows

-- a test of a table's rows
abbrev pub Tests : Grid → (table : List ℕ) (used : ℕ) → (List Row → Bool) → Bool → Type 0
Tests g table used f r = (rows : List Row) → Held g table used rows → r ≡ f rows

-- where the rows of a table first break a rule
abbrev pub Finds : Grid → (table : List ℕ) (used : ℕ) → (List Row → List ℕ) → Option ℕ → Type 0
Finds g table used f r = (rows : List Row) → Held g table used rows → r ≡ first_place (f rows)

-- ---- Laws

pub word-past : (rows : List Row) (i j : ℕ) → length rows ≤ i → word_in rows i j ≡ 0
unfolding word_in
word-past [] i j h = refl
word-past (r ∷ rows) zero j h = absurd (omega arith)
word-past (r ∷ rows) (suc i) j h = word-past rows i j (omega arith)

past_end : (l : List ℕ) (j : ℕ) → length l ≤ j → get_or l j 0 ≡ 0
past_end [] j h = refl
past_end (x ∷ l) zero h = absurd (omega arith)
past_end (x ∷ l) (suc j) h = past_end l j (omega arith)

pub word-beyond : (rows : List Row) (i j : ℕ) → width ≤ j → word_in rows i j ≡ 0
unfolding word_in words
word-beyond [] i j h = refl
word-beyond (r ∷ rows) zero j h = past_end (words r) j h
word-beyond (r ∷ rows) (suc i) j h = word-beyond rows i j h

-- the words of the first of the rows from row i on
pub kind_word : (rows : List Row) (i : ℕ) → kind_of (drop i rows) ≡ word_in rows i 0
unfolding kind_of word_in words
kind_word [] zero = refl
kind_word [] (suc i) = refl
kind_word (r ∷ rows) zero = refl
kind_word (r ∷ rows) (suc i) = kind_word rows i

pub first_word : (rows : List Row) (i : ℕ) → first_of (drop i rows) ≡ word_in rows i 1
unfolding first_of word_in words
first_word [] zero = refl
first_word [] (suc i) = refl
first_word (r ∷ rows) zero = refl
first_word (r ∷ rows) (suc i) = first_word rows i

pub detail_word : (rows : List Row) (i : ℕ) → detail_of (drop i rows) ≡ word_in rows i 5
unfolding detail_of word_in words
detail_word [] zero = refl
detail_word [] (suc i) = refl
detail_word (r ∷ rows) zero = refl
detail_word (r ∷ rows) (suc i) = detail_word rows i

pub next_word : (rows : List Row) (i : ℕ) → next (drop i rows) ≡ drop (i + word_in rows i 6) rows
unfolding next word_in words
next_word [] i = rw (drop-nil i, drop-nil (i + word_in [] i 6))
next_word (r ∷ rows) zero = let z : 0 + r.branch ≡ r.branch = omega arith in rw z
next_word (r ∷ rows) (suc i) =
    let z : suc i + word_in rows i 6 ≡ suc (i + word_in rows i 6) = omega arith in
    rw z (next_word rows i)

pub drop_past : (rows : List Row) (i : ℕ) → length rows ≤ i → drop i rows ≡ []
drop_past [] zero h = refl
drop_past [] (suc i) h = refl
drop_past (r ∷ rows) zero h = absurd (omega arith)
drop_past (r ∷ rows) (suc i) h = drop_past rows i (omega arith)

pub drop-row : (rows : List Row) (i : ℕ) → i < length rows → (r : Row) × (drop i rows ≡ r ∷ drop (suc i) rows)
drop-row [] i h = absurd (omega arith)
drop-row (r ∷ rows) zero h = (r, refl)
drop-row (r ∷ rows) (suc i) h = drop-row rows i (omega arith)
