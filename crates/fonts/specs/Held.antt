-- Rows that stand in the words from a row number on, and reading their words back. Assumes nothing.
use Rattle.std.specs.Prelude.{◌≡◌, ℕ, ◌+◌, ◌*◌, ◌^◌, ◌<◌, ◌≤◌, List, [], ◌∷◌, ◌++◌, length, get_or, slice_index, slice_index_or}
use native.Mathlib.Omega.{arith}
use Rattle.std.proofs.Common.{length-append, get_or-append-add}
use Rattle.std.proofs.Math.ListN.{get_or-append}
use Rattle.layout.specs.Rows.{Row, words, width}
use Rattle.layout.specs.Table.{shape_of}
use Rattle.reading.specs.Drafts.{Draft, drafted}
use Rattle.table.specs.declared.Grid.{Grid}
use Rattle.table.specs.Stores.{rows_at}
use Rattle.walked.specs.Written.{drafts, drafts-append, length-drafts, wide_drafts, written}
use Rattle.fonts.specs.FontWords.{word_at}

-- the rows stand in the words from row n on, and their numbers and the one after them fit a word
pub record HoldsDrafts (g : Grid) (w : List ℕ) (n : ℕ) (ds : List Draft) : Type 0 where
  pub there : (i j : ℕ) → i < length ds → j < width → word_at g w (n + i) j ≡ slice_index (slice_index_or (drafts ds) i []) j
  pub fits : n + length ds < 2 ^ 32

module _ (g : Grid) (w : List ℕ) where
  pub holds_left : (n : ℕ) (rs qs : List Draft) → HoldsDrafts g w n (rs ++ qs) → HoldsDrafts g w n rs
  holds_left n rs qs s =
      let l : length (rs ++ qs) ≡ length rs + length qs = length-append rs qs in
      let e : (i : ℕ) → i < length rs → slice_index_or (drafts (rs ++ qs)) i [] ≡ get_or (drafts rs) i [] = λ i h. rw (drafts-append rs qs) (get_or-append (drafts rs) (drafts qs) [] i (omega (arith, length-drafts rs))) in
      record { there = λ i j h k. rw (e i h) at (s.there i j (omega arith) k); fits = omega (arith, s.fits) }

  pub holds_right : (n : ℕ) (rs qs : List Draft) → HoldsDrafts g w n (rs ++ qs) → HoldsDrafts g w (n + length rs) qs
  holds_right n rs qs s =
      let l : length (rs ++ qs) ≡ length rs + length qs = length-append rs qs in
      let z : (i : ℕ) → n + (length rs + i) ≡ n + length rs + i = λ i. omega arith in
      let e : (i : ℕ) → slice_index_or (drafts (rs ++ qs)) (length rs + i) [] ≡ get_or (drafts qs) i [] = λ i. rw (drafts-append rs qs, ← length-drafts rs) (get_or-append-add (drafts rs) (drafts qs) i []) in
      record { there = λ i j h k. rw (e i, z i) at (s.there (length rs + i) j (omega arith) k); fits = omega (arith, s.fits) }

  -- a row's kind, first byte, number of children, and number of rows with all below it
  pub holds_row : (n : ℕ) (r : Row) (ds : List Draft) → HoldsDrafts g w n (drafted r ∷ ds)
      → (word_at g w n 0 ≡ r.kind) × (word_at g w n 1 ≡ r.first) × (word_at g w n 3 ≡ r.children) × (word_at g w n 6 ≡ r.branch)
  unfolding drafts words
  holds_row n r ds s =
      let z : n + 0 ≡ n = omega arith in
      let word : (j : ℕ) → j < width → word_at g w n j ≡ get_or (slice_index_or (drafts (drafted r ∷ ds)) 0 []) j 0 = λ j h. rw z at (s.there 0 j (omega arith) h) in
      (word 0 (omega arith), word 1 (omega arith), word 3 (omega arith), word 6 (omega arith))

-- rows that were stored stand there, where the words have room for them
pub written_holds : (g : Grid) (w : List ℕ) (u : ℕ) (ds : List Draft) → width * g.room ≤ length w → g.room < 2 ^ 32 → u + length ds ≤ g.room → HoldsDrafts g (written g w u ds) u ds
unfolding word_at written
written_holds g w u ds long few h = record {
  there = λ i j a b. rows_at (shape_of g.columns) g.room w u (drafts ds) i j (wide_drafts ds) (omega (arith, length-drafts ds)) (omega (arith, length-drafts ds)) b long;
  fits = omega arith;
}
