-- What counting a file adds to the words of a report. Assumes nothing.
use Rattle.std.specs.Prelude.{◌≡◌, Bool, true, false, cond, eqb, ltb, length, get_or}
use Rattle.std.proofs.Math.Path.{refl, sym}
use Rattle.std.proofs.Common.{ap, ◌∙◌, eq-eqb, ne_eqb, ltb-true, ltb-false, eqb-true}
use mathlib.Core.List.{List, [], ◌∷◌, ◌++◌, append_assoc}
use Prim.Native.Nat.{ℕ, zero, suc, ◌+◌, ◌*◌, ◌-◌, ◌≤◌, ◌<◌}
use native.Mathlib.Omega.{arith}
use Rattle.std.proofs.lemmas.Bool.{eqb-false}
use Rattle.layout.specs.Rows.{Row, row, words, flat, width}
use Rattle.layout.specs.Table.{cell}
use Rattle.layout.specs.Shortest.{numbered}
use Rattle.reading.specs.Seven.{seven_at}
use Rattle.numbers.specs.Padded.{number_of, past}
use Rattle.places.specs.Places.{raw_place}
use Rattle.table.specs.declared.Grid.{Grid}
use Rattle.table.specs.Grids.{cell_of, rows_grid}
use Rattle.pack_figures.specs.Figures.{Figure, refusals, rows, one, of_other, of_refusal}
use Rattle.pack_figures.specs.Digest.{Mark, row_bytes, mark_of, marks, of_accepted, of_mark, of_marks}
use Rattle.pack_figures.specs.Counted.{by_rows}
use Rattle.pack_figures.specs.Report.{figure_at}
use Rattle.pack_counts.specs.Raise.{raised, only, counted, raised-alike, raises_twice, counted_twice, counted_none}

-- ---- Rows of a table of any words

unfoldable pub row_at : Grid → (table : List ℕ) (i : ℕ) → Row
row_at g table i =
    row (get_or table (cell_of g i 0) 0) (get_or table (cell_of g i 1) 0) (get_or table (cell_of g i 2) 0) (get_or table (cell_of g i 3) 0)
    (get_or table (cell_of g i 4) 0) (get_or table (cell_of g i 5) 0) (get_or table (cell_of g i 6) 0)

-- so many rows from one on
unfoldable pub rows_at : Grid → (table : List ℕ) (i n : ℕ) → List Row
rows_at g table i zero = []
rows_at g table i (suc n) = row_at g table i ∷ rows_at g table (suc i) n

module _ (n : ℕ) where
  row_next : (r : Row) (l : List ℕ) (i : ℕ) → row_at (rows_grid n) (words r ++ l) (suc i) ≡ row_at (rows_grid n) l i
  unfolding row_at words cell
  row_next r l i =
      let z : (j : ℕ) → width * suc i + j ≡ suc (suc (suc (suc (suc (suc (suc (width * i + j))))))) = λ j. omega arith in
      rw (z 0, z 1, z 2, z 3, z 4, z 5, z 6)

  rows_next : (r : Row) (l : List ℕ) (i m : ℕ) → rows_at (rows_grid n) (words r ++ l) (suc i) m ≡ rows_at (rows_grid n) l i m
  unfolding rows_at
  rows_next r l i zero = refl
  rows_next r l i (suc m) = rw (row_next r l i, rows_next r l (suc i) m)

  first_row : (r : Row) (l : List ℕ) → row_at (rows_grid n) (words r ++ l) 0 ≡ r
  unfolding row_at words cell
  first_row r l = refl

  -- the rows at the start of a table
  pub rows_stand : (rs : List Row) (rest : List ℕ) → rows_at (rows_grid n) (flat rs ++ rest) 0 (length rs) ≡ rs
  unfolding rows_at flat
  rows_stand [] rest = refl
  rows_stand (r ∷ rs) rest =
      let e : (words r ++ flat rs) ++ rest ≡ words r ++ (flat rs ++ rest) = append_assoc (words r) (flat rs) rest in
      ap (λ (l : List ℕ). rows_at (rows_grid n) l 0 (suc (length rs))) e
      ∙ rw (first_row r (flat rs ++ rest), rows_next r (flat rs ++ rest) 0 (length rs), rows_stand rs rest)

-- ---- Which word a count raises

-- two tests of equal numbers that agree
tests_alike : (a b c d : ℕ) → (a ≡ b → c ≡ d) → (c ≡ d → a ≡ b) → eqb a b ≡ eqb c d
tests_alike a b c d f g = go (eqb a b) refl where
  go : (t : Bool) → eqb a b ≡ t → t ≡ eqb c d
  go true e = sym (eq-eqb c d (f (eqb-true a b e)))
  go false e = sym (ne_eqb c d (λ h. eqb-false a b e (g h)))

-- the words from 4 on, by whether they hold refusals or rows
by_part : (j : ℕ) (P : Figure → Type 0) → (j < 64 → P (refusals j)) → (64 ≤ j → P (rows (j - 64))) → P (figure_at (suc (suc (suc (suc j)))))
unfolding figure_at
by_part j P f g = go (ltb j 64) refl where
  go : (t : Bool) → ltb j 64 ≡ t → P (cond t (refusals j) (rows (j - 64)))
  go true e = f (ltb-true j 64 e)
  go false e = g (ltb-false j 64 e)

-- one for the word of a number
on : (at i : ℕ) → at ≡ i → only at 1 i ≡ 1
unfolding only
on at i e = rw (eq-eqb i at (sym e))

off : (at by i : ℕ) → (at ≡ i → ⊥) → only at by i ≡ 0
unfolding only
off at by i n = rw (ne_eqb i at (λ e. n (sym e)))

here : (at by : ℕ) → only at by at ≡ by
unfolding only
here at by = rw (eq-eqb at at refl)

tested : (at i a b : ℕ) → (at ≡ i → a ≡ b) → (a ≡ b → at ≡ i) → only at 1 i ≡ one (eqb a b)
unfolding only one
tested at i a b f g = ap (λ (t : Bool). cond t 1 0) (tests_alike i at a b (λ e. f (sym e)) (λ e. sym (g e)))

pub other_word : (i : ℕ) → only 0 1 i ≡ of_other (figure_at i)
unfolding only of_other figure_at
other_word zero = refl
other_word (suc zero) = refl
other_word (suc (suc zero)) = refl
other_word (suc (suc (suc zero))) = refl
other_word (suc (suc (suc (suc j)))) = by_part j (λ f. only 0 1 (suc (suc (suc (suc j)))) ≡ of_other f) (λ h. off 0 1 (suc (suc (suc (suc j)))) (λ e. omega arith)) (λ h. off 0 1 (suc (suc (suc (suc j)))) (λ e. omega arith))

pub accepted-word : (i : ℕ) → only 0 1 i + only 1 1 i ≡ of_accepted (figure_at i)
unfolding only of_accepted figure_at
accepted-word zero = refl
accepted-word (suc zero) = refl
accepted-word (suc (suc zero)) = refl
accepted-word (suc (suc (suc zero))) = refl
accepted-word (suc (suc (suc (suc j)))) =
    by_part j (λ f. only 0 1 (suc (suc (suc (suc j)))) + only 1 1 (suc (suc (suc (suc j)))) ≡ of_accepted f)
    (λ h. omega (arith, off 0 1 (suc (suc (suc (suc j)))) (λ e. omega arith), off 1 1 (suc (suc (suc (suc j)))) (λ e. omega arith)))
    (λ h. omega (arith, off 0 1 (suc (suc (suc (suc j)))) (λ e. omega arith), off 1 1 (suc (suc (suc (suc j)))) (λ e. omega arith)))

pub refusal-word : (number : ℕ) → number < 64 → (i : ℕ) → only 0 1 i + only (4 + number) 1 i ≡ of_refusal number (figure_at i)
unfolding of_refusal figure_at
refusal-word number h zero = omega (arith, on 0 0 refl, off (4 + number) 1 0 (λ e. omega arith))
refusal-word number h (suc zero) = omega (arith, off 0 1 1 (λ e. omega arith), off (4 + number) 1 1 (λ e. omega arith))
refusal-word number h (suc (suc zero)) = omega (arith, off 0 1 2 (λ e. omega arith), off (4 + number) 1 2 (λ e. omega arith))
refusal-word number h (suc (suc (suc zero))) = omega (arith, off 0 1 3 (λ e. omega arith), off (4 + number) 1 3 (λ e. omega arith))
refusal-word number h (suc (suc (suc (suc j)))) =
    by_part j (λ f. only 0 1 (suc (suc (suc (suc j)))) + only (4 + number) 1 (suc (suc (suc (suc j)))) ≡ of_refusal number f)
    (λ k. omega (arith, off 0 1 (suc (suc (suc (suc j)))) (λ e. omega arith), tested (4 + number) (suc (suc (suc (suc j)))) number j (λ e. omega arith) (λ e. omega arith)))
    (λ k. omega (arith, off 0 1 (suc (suc (suc (suc j)))) (λ e. omega arith), off (4 + number) 1 (suc (suc (suc (suc j)))) (λ e. omega arith)))

-- a refusal's number without a word
pub refusal-past : (number : ℕ) → 64 ≤ number → (i : ℕ) → only 0 1 i ≡ of_refusal number (figure_at i)
unfolding of_refusal figure_at one
refusal-past number h zero = on 0 0 refl
refusal-past number h (suc zero) = off 0 1 1 (λ e. omega arith)
refusal-past number h (suc (suc zero)) = off 0 1 2 (λ e. omega arith)
refusal-past number h (suc (suc (suc zero))) = off 0 1 3 (λ e. omega arith)
refusal-past number h (suc (suc (suc (suc j)))) =
    by_part j (λ f. only 0 1 (suc (suc (suc (suc j)))) ≡ of_refusal number f)
    (λ k. off 0 1 (suc (suc (suc (suc j)))) (λ e. omega arith) ∙ sym (ap (λ (t : Bool). cond t 1 0) (ne_eqb number j (λ e. omega arith))))
    (λ k. off 0 1 (suc (suc (suc (suc j)))) (λ e. omega arith))

-- what a value of a kind adds besides its row: to text bytes, to image bytes, or to neither
unfoldable pub besides : Mark → ℕ → ℕ
besides m i = only 2 (cond (eqb m.kind 13) m.bytes 0) i + only 3 (cond (eqb m.kind 35) m.bytes 0) i

pub mark-word : (m : Mark) (i : ℕ) → only (68 + m.kind) 1 i + besides m i ≡ of_mark m (figure_at i)
unfolding of_mark figure_at besides
mark-word m zero = omega (arith, off (68 + m.kind) 1 0 (λ e. omega arith), off 2 (cond (eqb m.kind 13) m.bytes 0) 0 (λ e. omega arith), off 3 (cond (eqb m.kind 35) m.bytes 0) 0 (λ e. omega arith))
mark-word m (suc zero) = omega (arith, off (68 + m.kind) 1 1 (λ e. omega arith), off 2 (cond (eqb m.kind 13) m.bytes 0) 1 (λ e. omega arith), off 3 (cond (eqb m.kind 35) m.bytes 0) 1 (λ e. omega arith))
mark-word m (suc (suc zero)) = omega (arith, off (68 + m.kind) 1 2 (λ e. omega arith), here 2 (cond (eqb m.kind 13) m.bytes 0), off 3 (cond (eqb m.kind 35) m.bytes 0) 2 (λ e. omega arith))
mark-word m (suc (suc (suc zero))) = omega (arith, off (68 + m.kind) 1 3 (λ e. omega arith), off 2 (cond (eqb m.kind 13) m.bytes 0) 3 (λ e. omega arith), here 3 (cond (eqb m.kind 35) m.bytes 0))
mark-word m (suc (suc (suc (suc j)))) =
    let no_text = off 2 (cond (eqb m.kind 13) m.bytes 0) (suc (suc (suc (suc j)))) (λ e. omega arith) in
    let no_image = off 3 (cond (eqb m.kind 35) m.bytes 0) (suc (suc (suc (suc j)))) (λ e. omega arith) in
    by_part j (λ f. only (68 + m.kind) 1 (suc (suc (suc (suc j)))) + (only 2 (cond (eqb m.kind 13) m.bytes 0) (suc (suc (suc (suc j)))) + only 3 (cond (eqb m.kind 35) m.bytes 0) (suc (suc (suc (suc j))))) ≡ of_mark m f)
    (λ k. omega (arith, no_text, no_image, off (68 + m.kind) 1 (suc (suc (suc (suc j)))) (λ e. omega arith)))
    (λ k. omega (arith, no_text, no_image, tested (68 + m.kind) (suc (suc (suc (suc j)))) m.kind (j - 64) (λ e. omega arith) (λ e. omega arith)))

-- ---- The words after a count

abbrev pub Words : Type 0
Words = List ℕ

pub other_counted : (l : Words) → raised 0 (only 0 1) l ≡ counted of_other l
other_counted l = raised-alike 0 _ _ other_word l

pub refusal-counted : (number : ℕ) → number < 64 → (l : Words) → raised 0 (only (4 + number) 1) (raised 0 (only 0 1) l) ≡ counted (of_refusal number) l
refusal-counted number h l = raises_twice (only 0 1) (only (4 + number) 1) l ∙ raised-alike 0 _ _ (refusal-word number h) l

pub refusal_uncounted : (number : ℕ) → 64 ≤ number → (l : Words) → raised 0 (only 0 1) l ≡ counted (of_refusal number) l
refusal_uncounted number h l = raised-alike 0 _ _ (refusal-past number h) l

-- the row, then the bytes of a text or of an image
row-counted : (m : Mark) (at by : ℕ) → ((i : ℕ) → only at by i ≡ besides m i) → (l : Words) → raised 0 (only at by) (raised 0 (only (68 + m.kind) 1) l) ≡ counted (of_mark m) l
row-counted m at by h l =
    raises_twice (only (68 + m.kind) 1) (only at by) l
    ∙ raised-alike 0 _ _ (λ i. ap (λ (n : ℕ). only (68 + m.kind) 1 i + n) (h i) ∙ mark-word m i) l

only_zero : (at i : ℕ) → only at 0 i ≡ 0
unfolding only
only_zero at i = go (eqb i at) where
  go : (t : Bool) → ◌≡◌ {A = ℕ} (cond t 0 0) 0
  go true = refl
  go false = refl

pub text-counted : (m : Mark) → m.kind ≡ 13 → (l : Words) → raised 0 (only 2 m.bytes) (raised 0 (only (68 + m.kind) 1) l) ≡ counted (of_mark m) l
unfolding besides
text-counted m e l = row-counted m 2 m.bytes (λ i. rw e (omega (arith, only_zero 3 i))) l

pub image_counted : (m : Mark) → m.kind ≡ 35 → (l : Words) → raised 0 (only 3 m.bytes) (raised 0 (only (68 + m.kind) 1) l) ≡ counted (of_mark m) l
unfolding besides
image_counted m e l = row-counted m 3 m.bytes (λ i. rw e (omega (arith, only_zero 2 i))) l

pub plain-counted : (m : Mark) → (m.kind ≡ 13 → ⊥) → (m.kind ≡ 35 → ⊥) → (l : Words) → raised 0 (only (68 + m.kind) 1) l ≡ counted (of_mark m) l
unfolding besides
plain-counted m n o l =
    raised-alike 0 _ _ (λ i. none i ∙ mark-word m i) l where
      none : (i : ℕ) → only (68 + m.kind) 1 i ≡ only (68 + m.kind) 1 i + besides m i
      none i = rw (ne_eqb m.kind 13 n, ne_eqb m.kind 35 o) (omega (arith, only_zero 2 i, only_zero 3 i))

-- the bytes of a text and of an image level, by their rows
pub text-row : (file : List ℕ) (r : Row) → r.kind ≡ 13 → row_bytes file r ≡ number_of (seven_at file (raw_place file 13 r.first r.detail))
unfolding row_bytes
text-row file r e = rw e

pub image_row : (file : List ℕ) (r : Row) → r.kind ≡ 35 → row_bytes file r ≡ r.bytes - 4
unfolding row_bytes
image_row file r e = rw e

-- where a text's count stands: at its first byte, or behind its type id
pub text-plain : (file : List ℕ) (first : ℕ) {id : ℕ} → id ≡ 0 → raw_place file 13 first id ≡ first
unfolding raw_place numbered
text-plain file first e = rw e

pub text-object : (file : List ℕ) (first id : ℕ) → (id ≡ 0 → ⊥) → raw_place file 13 first id ≡ past (seven_at file first) first
unfolding raw_place numbered
text-object file first zero n = absurd (n refl)
text-object file first (suc i) n = refl

-- a row of a table, as the code reads it: its words, its bytes and what is raised
module _ (file table : List ℕ) (g : Grid) (i : ℕ) (l : Words) {kind : ℕ} {m : Words} (kind_is : kind ≡ get_or table (cell_of g i 0) 0) (raised_so : m ≡ raised 0 (only (68 + kind) 1) l) where
  abbrev marked : Mark
  marked = mark_of file (row_at g table i)

  kind_of_lem : marked.kind ≡ kind
  unfolding row_at
  kind_of_lem = sym kind_is

  so : m ≡ raised 0 (only (68 + marked.kind) 1) l
  so = rw kind_of_lem raised_so

  pub text-told : {first id bytes : ℕ} {n : Words} → kind ≡ 13 → first ≡ get_or table (cell_of g i 1) 0 → id ≡ get_or table (cell_of g i 5) 0
      → bytes ≡ number_of (seven_at file (raw_place file 13 first id)) → n ≡ raised 0 (only 2 bytes) m → n ≡ counted (of_mark marked) l
  unfolding row_at
  text-told {first} {id} {bytes} k e d b q =
      let t : bytes ≡ marked.bytes = b ∙ rw (e, d) (sym (text-row file (row_at g table i) (kind_of_lem ∙ k))) in
      rw (q, t, so) (text-counted marked (kind_of_lem ∙ k) l)

  pub image_told : {length bytes : ℕ} {n : Words} → kind ≡ 35 → length ≡ get_or table (cell_of g i 2) 0
      → bytes ≡ length - 4 → n ≡ raised 0 (only 3 bytes) m → n ≡ counted (of_mark marked) l
  unfolding row_at
  image_told {length} {bytes} k e b q =
      let t : bytes ≡ marked.bytes = b ∙ rw e (sym (image_row file (row_at g table i) (kind_of_lem ∙ k))) in
      rw (q, t, so) (image_counted marked (kind_of_lem ∙ k) l)

  pub plain-told : (kind ≡ 13 → ⊥) → (kind ≡ 35 → ⊥) → m ≡ counted (of_mark marked) l
  plain-told n o = so ∙ plain-counted marked (λ e. n (sym kind_of_lem ∙ e)) (λ e. o (sym kind_of_lem ∙ e)) l

-- ---- Row by row

module _ (file : List ℕ) (g : Grid) (table : List ℕ) (used : ℕ) where
  -- what the rows from one on add
  abbrev pub rows_from : (i : ℕ) → Figure → ℕ
  rows_from i = of_marks (marks file (rows_at g table i (used - i)))

  pub no_row_yet : (l : Words) → counted (of_marks (marks file (rows_at g table 0 used))) l ≡ counted (rows_from 0) l
  no_row_yet l = let z : used - 0 ≡ used = omega arith in rw z

  pub one_more : (i : ℕ) → i < used → (l : Words) → counted (rows_from i) l ≡ counted (rows_from (i + 1)) (counted (of_mark (mark_of file (row_at g table i))) l)
  unfolding rows_at of_marks
  one_more i h l =
      let z : used - i ≡ suc (used - (i + 1)) = omega arith in
      let y : i + 1 ≡ suc i = omega arith in
      rw (z, y) (sym (counted_twice (of_mark (mark_of file (row_at g table i))) (of_marks (marks file (rows_at g table (suc i) (used - suc i)))) l))

  pub no_more : (i : ℕ) → used ≤ i → (l : Words) → counted (rows_from i) l ≡ l
  unfolding rows_at of_marks
  no_more i h l = let z : used - i ≡ 0 = omega arith in rw z (sym (counted_none l))

  -- all rows, behind what every accepted file counts as
  pub all_rows : (l : Words) → counted (of_marks (marks file (rows_at g table 0 used))) (raised 0 (only 1 1) (raised 0 (only 0 1) l)) ≡ counted (by_rows file (rows_at g table 0 used)) l
  unfolding by_rows
  all_rows l =
      let e : raised 0 (only 1 1) (raised 0 (only 0 1) l) ≡ counted of_accepted l = raises_twice (only 0 1) (only 1 1) l ∙ raised-alike 0 _ _ accepted-word l in
      rw e (counted_twice of_accepted (of_marks (marks file (rows_at g table 0 used))) l)
