-- The files of a pack by its table, and their figures. Assumes nothing.
use Rattle.std.specs.Prelude.{◌≡◌, cond, leb, length, take, drop, get_or}
use Rattle.std.proofs.Math.Path.{refl}
use Rattle.std.proofs.Common.{sym}
use mathlib.Core.List.{List, [], ◌∷◌, ◌++◌}
use Prim.Native.Nat.{ℕ, zero, suc, ◌+◌, ◌*◌, ◌-◌, ◌≤◌, ◌<◌}
use native.Mathlib.Omega.{arith}
use borrow.Author.Tests.{le-leb, lt-leb}
use Rattle.reading.specs.Answer.{Answer}
use Rattle.reading.specs.File.{Loaded}
use Rattle.pack_layout.specs.Pack.{Stored}
use Rattle.pack_layout.specs.Table.{Entry, flat}
use Rattle.pack_layout.specs.Parts.{NamesOne, Names}
use Rattle.pack_figures.specs.Figures.{Figure, of_content, of_files}
use Rattle.pack_counts.specs.Raise.{counted, counted_none, counted_twice}

-- the data that entry i of a table of any words names; none where it runs past the pack
unfoldable pub content_at : (pack table : List ℕ) (i : ℕ) → List ℕ
content_at pack table i =
    cond (leb (get_or table (4 * i + 2) 0 + get_or table (4 * i + 3) 0) (length pack)) (take (get_or table (4 * i + 3) 0) (drop (get_or table (4 * i + 2) 0) pack)) []

module _ (pack table : List ℕ) (i : ℕ) {first count : ℕ} (first_is : first ≡ get_or table (4 * i + 2) 0) (count_is : count ≡ get_or table (4 * i + 3) 0) where
  pub past_pack : length pack < first + count → [] ≡ content_at pack table i
  unfolding content_at
  past_pack h = rw (← first_is, ← count_is, lt-leb (first + count) (length pack) h)

  pub in_pack : first + count ≤ length pack → take (first + count - first) (drop first pack) ≡ content_at pack table i
  unfolding content_at
  in_pack h = let z : first + count - first ≡ count = omega arith in rw (← first_is, ← count_is, le-leb (first + count) (length pack) h, z)

module _ (opened : List ℕ → Answer Loaded) (pack table : List ℕ) where
  -- the figures of so many files from one on
  unfoldable pub of_entries : (i n : ℕ) → Figure → ℕ
  of_entries i zero f = 0
  of_entries i (suc n) f = of_content opened (content_at pack table i) f + of_entries (suc i) n f

  -- ---- File by file

  module _ (files : ℕ) where
    abbrev pub entries_from : (i : ℕ) → Figure → ℕ
    entries_from i = of_entries i (files - i)

    pub no_file_yet : (l : List ℕ) → counted (of_entries 0 files) l ≡ counted (entries_from 0) l
    no_file_yet l = let z : files - 0 ≡ files = omega arith in rw z

    pub one_file : (i : ℕ) → i < files → (l : List ℕ) → counted (entries_from i) l ≡ counted (entries_from (i + 1)) (counted (of_content opened (content_at pack table i)) l)
    unfolding of_entries
    one_file i h l =
        let z : files - i ≡ suc (files - (i + 1)) = omega arith in
        let y : i + 1 ≡ suc i = omega arith in
        rw (z, y) (sym (counted_twice (of_content opened (content_at pack table i)) (of_entries (suc i) (files - suc i)) l))

    pub no_file_left : (i : ℕ) → files ≤ i → (l : List ℕ) → counted (entries_from i) l ≡ l
    unfolding of_entries
    no_file_left i h l = let z : files - i ≡ 0 = omega arith in rw z (sym (counted_none l))

-- ---- The entries of a pack's own table

content_next : (pack : List ℕ) (e : Entry) (l : List ℕ) (i : ℕ) → content_at pack (e.path_start ∷ e.path_length ∷ e.data_start ∷ e.data_length ∷ l) (suc i) ≡ content_at pack l i
unfolding content_at
content_next pack e l i =
    let y : 4 * suc i + 2 ≡ suc (suc (suc (suc (4 * i + 2)))) = omega arith in
    let z : 4 * suc i + 3 ≡ suc (suc (suc (suc (4 * i + 3)))) = omega arith in
    rw (y, z)

content_first : (pack : List ℕ) (e : Entry) (s : Stored) (l : List ℕ) → NamesOne pack e s → content_at pack (e.path_start ∷ e.path_length ∷ e.data_start ∷ e.data_length ∷ l) 0 ≡ s.content
unfolding content_at
content_first pack e s l n = rw (le-leb (e.data_start + e.data_length) (length pack) n.data_part.inside) n.data_part.bytes_are

module _ (opened : List ℕ → Answer Loaded) (pack : List ℕ) where
  entries_next : (e : Entry) (l : List ℕ) (i n : ℕ) (f : Figure)
      → of_entries opened pack (e.path_start ∷ e.path_length ∷ e.data_start ∷ e.data_length ∷ l) (suc i) n f ≡ of_entries opened pack l i n f
  unfolding of_entries
  entries_next e l i zero f = refl
  entries_next e l i (suc n) f = rw (content_next pack e l i, entries_next e l (suc i) n f)

  -- the figures by the table are those of the files that it names
  pub entries_are : (es : List Entry) (fs : List Stored) (rest : List ℕ) → Names pack es fs → (f : Figure) → of_entries opened pack (flat es ++ rest) 0 (length fs) f ≡ of_files opened fs f
  unfolding of_entries of_files Names flat
  entries_are [] [] rest n f = refl
  entries_are [] (s ∷ fs) rest n f = absurd n
  entries_are (e ∷ es) [] rest n f = absurd n
  entries_are (e ∷ es) (s ∷ fs) rest n f =
      rw (content_first pack e s (flat es ++ rest) n.0, entries_next e (flat es ++ rest) 0 (length fs) f, entries_are es fs rest n.1 f)
