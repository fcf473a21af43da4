-- Nullables that follow each other, whose values are of one kind and size: where they stand, that they are there, and their rows. Assumes nothing.
use Rattle.std.specs.Prelude.{◌≡◌, Option, None, Some, List, ℕ, zero, suc, ◌+◌, ◌*◌, ◌-◌, ◌≤◌, ◌<◌, length, get_or}
use Rattle.std.proofs.Math.Path.{refl}
use Rattle.std.proofs.Common.{sym, ◌∙◌, add-one}
use native.Mathlib.Omega.{arith}
use Rattle.std.proofs.Math.Decide.{dec_lt}
use Rattle.layout.specs.Rows.{row}
use Rattle.table.specs.Word.{in_word}
use Rattle.table.specs.declared.Grid.{Grid}
use Rattle.table.specs.Put.{put_row}
use Rattle.table.specs.Runs.{put_run}
use Rattle.leaves.specs.declared.plain.Plain.{Plain}
use Rattle.leaves.specs.declared.plain.Plain.TheVariants.{Fixed, Enum, Char, Level, Reference, Blob, Bone, Code, DataSize}
use Rattle.leaves.specs.Same.{Kept, Uniform, all_free, all_booleans, all_chars}
use Rattle.walked.specs.declared.Reached.{Reached}
use Rattle.nullables.specs.declared.Ends.{Ends}

-- 01: a nullable is one byte, 0 or 1, and the value if it is 1
abbrev pub flag_at : (file : List ℕ) (place : ℕ) → ℕ
flag_at file place = get_or file place 0

-- where nullable i stands, and the number of its row
unfoldable pub place_of : (file : List ℕ) (size at i : ℕ) → ℕ
place_of file size at zero = at
place_of file size at (suc i) = place_of file size at i + 1 + flag_at file (place_of file size at i) * size

unfoldable pub row_of : (file : List ℕ) (size at used i : ℕ) → ℕ
row_of file size at used zero = used
row_of file size at used (suc i) = row_of file size at used i + 1 + flag_at file (place_of file size at i)

-- a nullable is there, and its value is read
pub record Fits (file : List ℕ) (kind size place : ℕ) : Type 0 where
  pub there : place < length file
  pub flagged : flag_at file place ≤ 1
  pub inside : place + 1 + flag_at file place * size ≤ length file
  pub kept : Kept file kind size (place + 1) (flag_at file place)

-- so are n that follow each other
abbrev pub AllFit : (file : List ℕ) (kind size at n : ℕ) → Type 0
AllFit file kind size at n = (i : ℕ) → i < n → Fits file kind size (place_of file size at i)

-- the rows of a nullable: its value's, then its own
abbrev pub put_nullable : Grid → (kind size parent : ℕ) → List ℕ → (place number flag : ℕ) → List ℕ
put_nullable g kind size parent w place number flag =
    put_row g (put_run g (number + 1) kind (place + 1) size (number + 1) w flag) number (row 16 (in_word place) (in_word (1 + flag * size)) flag parent 0 (1 + flag))

-- the rows of n that follow each other
unfoldable pub put_all : Grid → (file : List ℕ) (kind size parent at used : ℕ) → List ℕ → (n : ℕ) → List ℕ
put_all g file kind size parent at used w zero = w
put_all g file kind size parent at used w (suc i) =
    put_nullable g kind size parent (put_all g file kind size parent at used w i) (place_of file size at i) (row_of file size at used i) (flag_at file (place_of file size at i))

-- the kind and size of a value in a slot, where they are one
abbrev pub kind_in : Plain → ℕ
kind_in (Fixed k z) = k
kind_in (Enum z) = 15
kind_in Char = 12
kind_in (Level z) = 0
kind_in (Reference z) = 0
kind_in (Blob z) = 0
kind_in (Bone z) = 0
kind_in (Code z) = 0
kind_in (DataSize z) = 0

abbrev pub size_in : Plain → ℕ
size_in (Fixed k z) = z
size_in (Enum z) = z
size_in Char = 1
size_in (Level z) = 0
size_in (Reference z) = 0
size_in (Blob z) = 0
size_in (Bone z) = 0
size_in (Code z) = 0
size_in (DataSize z) = 0

pub uniform_in : (p : Plain) → 0 < size_in p → Uniform p (kind_in p) (size_in p)
uniform_in (Fixed k z) h = (refl, refl)
uniform_in (Enum z) h = (refl, refl)
uniform_in Char h = (refl, refl)
uniform_in (Level z) h = absurd (omega arith)
uniform_in (Reference z) h = absurd (omega arith)
uniform_in (Blob z) h = absurd (omega arith)
uniform_in (Bone z) h = absurd (omega arith)
uniform_in (Code z) h = absurd (omega arith)
uniform_in (DataSize z) h = absurd (omega arith)

-- the first byte of a value of a kind that says whether it keeps its rule is at most `most`
pub data Ruled : (kind size most : ℕ) → Type 0 where
  free : {kind size most : ℕ} → (kind ≡ 11 → ⊥) → (kind ≡ 12 → ⊥) → (kind ≡ 21 → ⊥) → (kind ≡ 22 → ⊥) → Ruled kind size most
  boolean : {kind size most : ℕ} → kind ≡ 11 → size ≡ 1 → most ≡ 1 → Ruled kind size most
  character : {kind size most : ℕ} → kind ≡ 12 → size ≡ 1 → most ≡ 127 → Ruled kind size most

-- where n nullables end, and the row behind theirs
abbrev pub EndsAre : (file : List ℕ) (kind size n at used : ℕ) → Option Ends → Type 0
EndsAre file kind size n at used (Some ends) = AllFit file kind size at n × (ends.next ≡ place_of file size at n) × (ends.last ≡ row_of file size at used n)
EndsAre file kind size n at used None = Unit {0}

-- n nullables below row `used` and what they reach, if they are seen to be there with room for their rows; else the words stay
abbrev pub ListedAre : Grid → (file : List ℕ) (kind size n at used : ℕ) → (entry exit : List ℕ) → Option Reached → Type 0
ListedAre g file kind size n at used entry exit (Some r) =
    (0 < size) × AllFit file kind size at n × (row_of file size at used n ≤ g.room)
    × (r ≡ record { used = row_of file size at used n; padding = 0; next = place_of file size at n }) × (exit ≡ put_all g file kind size used at used entry n)
ListedAre g file kind size n at used entry exit None = exit ≡ entry

-- one more of them
module _ (file : List ℕ) (size at used i : ℕ) where
  pub place-more : place_of file size at (i + 1) ≡ place_of file size at i + 1 + flag_at file (place_of file size at i) * size
  unfolding place_of
  place-more = rw (add-one i)

  pub row_more : row_of file size at used (i + 1) ≡ row_of file size at used i + 1 + flag_at file (place_of file size at i)
  unfolding row_of
  row_more = rw (add-one i)

pub put-more : (g : Grid) (file : List ℕ) (kind size parent at used i : ℕ) (w : List ℕ)
    → put_all g file kind size parent at used w (i + 1)
    ≡ put_nullable g kind size parent (put_all g file kind size parent at used w i) (place_of file size at i) (row_of file size at used i) (flag_at file (place_of file size at i))
unfolding put_all
put-more g file kind size parent at used i w = rw (add-one i)

-- rows follow each other
pub row_rises : (file : List ℕ) (size at used k i : ℕ) → row_of file size at used i + k ≤ row_of file size at used (i + k)
unfolding row_of
row_rises file size at used zero i = let z : i + 0 ≡ i = omega arith in rw z (omega arith)
row_rises file size at used (suc k) i =
    let z : i + suc k ≡ suc (i + k) = omega arith in
    rw z (omega (arith, row_rises file size at used k i))

-- the rows of nullable i of n are among theirs
pub row_below : (file : List ℕ) (size at used n i : ℕ) → i < n → row_of file size at used i + 1 + flag_at file (place_of file size at i) ≤ row_of file size at used n
row_below file size at used n i h =
    let z : i + 1 + (n - (i + 1)) ≡ n = omega arith in
    let r : row_of file size at used (i + 1) + (n - (i + 1)) ≤ row_of file size at used (i + 1 + (n - (i + 1))) = row_rises file size at used (n - (i + 1)) (i + 1) in
    let q : row_of file size at used (i + 1) + (n - (i + 1)) ≤ row_of file size at used n = rw z at r in
    omega (arith, row_more file size at used i)

-- nullable i of n is there, and its rows are among theirs
pub fit_at : (file : List ℕ) (kind size at used n i next number : ℕ) → AllFit file kind size at n → i < n → next ≡ place_of file size at i → number ≡ row_of file size at used i
    → Fits file kind size next × (number + 1 + flag_at file next ≤ row_of file size at used n)
fit_at file kind size at used n i next number a h p q = rw (p, q) (a i h, row_below file size at used n i h)

-- those so far fit, and one more does
pub fits_more : (file : List ℕ) (kind size at i : ℕ) → AllFit file kind size at i → Fits file kind size (place_of file size at i) → AllFit file kind size at (i + 1)
fits_more file kind size at i a f k h = go (dec_lt k i) where
  go : Dec (k < i) → Fits file kind size (place_of file size at k)
  go (yes l) = a k l
  go (no l) =
      let e : k ≡ i = omega arith in
      rw e f

-- a value's first byte says that it keeps its rule
pub ruled-kept : (file : List ℕ) (kind size most place flag : ℕ) → Ruled kind size most → place + 1 + flag * size ≤ length file → flag ≤ 1 → get_or file (place + flag) 0 ≤ most → Kept file kind size (place + 1) flag
ruled-kept file kind size most place flag (free a b c d) t f h = all_free file kind size (place + 1) flag t a b c d
ruled-kept file kind size most place flag (boolean k z m) t f h = all_booleans file kind size (place + 1) flag t k z (λ i l. first i l)
  where
    first : (i : ℕ) → i < flag → get_or file (place + 1 + i) 0 ≤ 1
    first i l = let q : place + 1 + i ≡ place + flag = omega arith in rw q (omega (arith, m, h))
ruled-kept file kind size most place flag (character k z m) t f h = all_chars file kind size (place + 1) flag t k z (λ i l. first i l)
  where
    first : (i : ℕ) → i < flag → get_or file (place + 1 + i) 0 ≤ 127
    first i l = let q : place + 1 + i ≡ place + flag = omega arith in rw q (omega (arith, m, h))

-- no value, and one value
module _ (g : Grid) (number kind place size parent : ℕ) (w : List ℕ) where
  pub run_none : put_run g number kind place size parent w 0 ≡ w
  unfolding put_run
  run_none = refl

  pub run_one : put_run g number kind place size parent w 1 ≡ put_row g w number (row kind (in_word place) (in_word size) 0 parent 0 1)
  unfolding put_run
  run_one =
      let z : number + 0 ≡ number = omega arith in
      let q : place + 0 * size ≡ place = omega arith in
      rw (z, q)

-- one more nullable is seen to be there
pub seen_more : (file : List ℕ) (kind size most at used i next last flag bytes : ℕ) → Ruled kind size most → AllFit file kind size at i → next ≡ place_of file size at i → last ≡ row_of file size at used i
    → flag ≡ flag_at file next → bytes ≡ flag * size → next < length file → flag ≤ 1 → next + 1 + bytes ≤ length file → get_or file (next + flag) 0 ≤ most
    → AllFit file kind size at (i + 1) × (next + 1 + bytes ≡ place_of file size at (i + 1)) × (last + 1 + flag ≡ row_of file size at used (i + 1))
seen_more file kind size most at used i next last flag bytes r a p l f b there flagged inside h =
    let k : Kept file kind size (next + 1) flag = ruled-kept file kind size most next flag r (rw (← b) inside) flagged h in
    let one : Fits file kind size next = record { there = there; flagged = rw (← f) flagged; inside = rw (← f, ← b) inside; kept = rw (← f) k } in (
      fits_more file kind size at i a (rw (← p) one),
      rw (b, f, p) (sym (place-more file size at used i)),
      rw (l, f, p) (sym (row_more file size at used i)),
    )

-- the rows of one more nullable are put
pub put_next : (g : Grid) (file : List ℕ) (kind size at used i next number flag bytes : ℕ) (w₀ w v u : List ℕ) (first whole : ℕ) → next ≡ place_of file size at i → number ≡ row_of file size at used i → flag ≡ flag_at file next → bytes ≡ flag * size
    → w ≡ put_all g file kind size used at used w₀ i → v ≡ put_run g (number + 1) kind (next + 1) size (number + 1) w flag → first ≡ in_word next → whole ≡ in_word (1 + bytes)
    → u ≡ put_row g v number (row 16 first whole flag used 0 (1 + flag))
    → (next + 1 + bytes ≡ place_of file size at (i + 1)) × (number + 1 + flag ≡ row_of file size at used (i + 1)) × (u ≡ put_all g file kind size used at used w₀ (i + 1))
put_next g file kind size at used i next number flag bytes w₀ w v u first whole p q f b e x y z h = (
  rw (b, f, p) (sym (place-more file size at used i)),
  rw (q, f, p) (sym (row_more file size at used i)),
  h ∙ rw (x, y, z, e, b, f, q, p) (sym (put-more g file kind size used at used i w₀)),
)
