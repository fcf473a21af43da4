-- Values of one kind and size that follow each other: how their rows are put at once is how they are put one after the other. Assumes nothing.
use Rattle.std.specs.Prelude.{◌≡◌, Bool, true, false, ◌||◌, List, ℕ, suc, ◌+◌, ◌*◌, ◌≤◌, ◌<◌, leb, ltb, length, get_or, take, drop}
use Rattle.std.proofs.Common.{mul-suc, mul_comm, mul-le-mul_left, length-drop, drop-cons}
use native.Mathlib.Omega.{arith}
use Rattle.std.proofs.Math.Decide.{dec_lt}
use borrow.Author.Tests.{le-leb, leb-true, ltb-false, ne_eqb}
use Rattle.laws.specs.Small.{both, neither}
use Rattle.layout.specs.Rows.{width}
use Rattle.reading.specs.Answer.{read, bind, check, within}
use Rattle.reading.specs.Reads.{some, field}
use Rattle.reading.specs.Fixed.{is_boolean, rule, fixed_at, sized}
use Rattle.reading.specs.Utf8.{char_at, char_of, size, size_one, follow}
use Rattle.table.specs.declared.Grid.{Grid}
use Rattle.table.specs.Word.{in_word}
use Rattle.table.specs.Runs.{has_rows}
use Rattle.walked.specs.Contract.{Walk, reaching}
use Rattle.walked.specs.Leaf.{mute, leaf_answer}
use Rattle.leaves.specs.declared.plain.Plain.{Plain}
use Rattle.leaves.specs.declared.plain.Plain.TheVariants.{Fixed, Enum, Char, Level, Reference, Blob, Bone, Code, DataSize}
use Rattle.leaves.specs.declared.run.Run.TheVariants.{Same}
use Rattle.leaves.specs.Plain.{plain_pad, plain_value, value_left}
use Rattle.leaves.specs.Run.{turn_of, onward, run_from, run_of}

-- n bytes from a place on are at most `most`
abbrev pub AtMost : (file : List ℕ) (at n most : ℕ) → Type 0
AtMost file at n most = (k : ℕ) → k < n → get_or file (at + k) 0 ≤ most

-- one byte more, where b says whether one before it is above `most`
pub most-more : (file : List ℕ) (at j most : ℕ) (b : Bool) → (b ≡ false → AtMost file at j most) → (b || ltb most (get_or file (at + j) 0)) ≡ false → AtMost file at (j + 1) most
most-more file at j most b f e k h = go (dec_lt k j) where
  q : (b ≡ false) × (ltb most (get_or file (at + j) 0) ≡ false)
  q = neither b (ltb most (get_or file (at + j) 0)) e

  go : Dec (k < j) → get_or file (at + k) 0 ≤ most
  go (yes l) = f q.0 k l
  go (no l) =
      let z : k ≡ j = omega arith in
      rw z (ltb-false most (get_or file (at + j) 0) q.1)

-- a value of a kind and size at a place is read; so is a character, which has kind 12
abbrev pub ValueKept : (file : List ℕ) (kind size at : ℕ) → Type 0
ValueKept file kind size at = (mute (sized (fixed_at file kind size at)) ≡ read tt (at + size)) × (kind ≡ 12 → mute (char_at file at) ≡ read tt (at + 1))

-- n of them that follow each other are
abbrev pub Kept : (file : List ℕ) (kind size at n : ℕ) → Type 0
Kept file kind size at n = (i : ℕ) → i < n → ValueKept file kind size (at + i * size)

-- a value in a slot is of a kind and size
abbrev pub Uniform : Plain → (kind size : ℕ) → Type 0
Uniform (Fixed k z) kind size = (k ≡ kind) × (z ≡ size)
Uniform (Enum z) kind size = (15 ≡ kind) × (z ≡ size)
Uniform Char kind size = (12 ≡ kind) × (1 ≡ size)
Uniform (Level z) kind size = ⊥
Uniform (Reference z) kind size = ⊥
Uniform (Blob z) kind size = ⊥
Uniform (Bone z) kind size = ⊥
Uniform (Code z) kind size = ⊥
Uniform (DataSize z) kind size = ⊥

-- value i of n stands among their bytes
pub value-inside : (at size i n l : ℕ) → i < n → at + n * size ≤ l → at + i * size + size ≤ l
value-inside at size i n l h b =
    omega (arith, mul_comm (suc i) size, mul-suc size i, mul_comm i size, mul_comm n size, mul-le-mul_left size h)

module _ (file : List ℕ) (kind size at : ℕ) (there : at + size ≤ length file) where
  enough : size ≤ length (drop at file)
  enough = omega (arith, length-drop at file)

  -- its bytes keep the rule of the kind
  pub fixed_kept : rule kind (take size (drop at file)) ≡ true → mute (sized (fixed_at file kind size at)) ≡ read tt (at + size)
  unfolding mute sized fixed_at field some bind check
  fixed_kept r = rw (le-leb size (length (drop at file)) enough, r)

-- a kind has no rule
pub no_rule : (kind : ℕ) (own : List ℕ) → (kind ≡ 11 → ⊥) → (kind ≡ 21 → ⊥) → (kind ≡ 22 → ⊥) → rule kind own ≡ true
unfolding rule
no_rule kind own p q r = rw (ne_eqb kind 11 p, ne_eqb kind 21 q, ne_eqb kind 22 r)

module _ (file : List ℕ) (at : ℕ) (there : at < length file) where
  pub boolean-kept : get_or file at 0 ≤ 1 → rule 11 (take 1 (drop at file)) ≡ true
  unfolding rule is_boolean
  boolean-kept h = rw (drop-cons file at 0 there, le-leb (get_or file at 0) 1 h)

  pub char-kept : get_or file at 0 ≤ 127 → mute (char_at file at) ≡ read tt (at + 1)
  unfolding mute char_at char_of check within follow
  char-kept h = rw (drop-cons file at 0 there, size_one (get_or file at 0) (omega arith), le-leb 1 (suc (length (drop (suc at) file))) (omega arith))

-- n values are kept, by their bytes
module _ (file : List ℕ) (kind size at n : ℕ) (there : at + n * size ≤ length file) where
  pub all_free : (kind ≡ 11 → ⊥) → (kind ≡ 12 → ⊥) → (kind ≡ 21 → ⊥) → (kind ≡ 22 → ⊥) → Kept file kind size at n
  all_free a b c d i h =
      (fixed_kept file kind size (at + i * size) (value-inside at size i n (length file) h there) (no_rule kind (take size (drop (at + i * size) file)) a c d), λ e. absurd (b e))

  pub all_booleans : kind ≡ 11 → size ≡ 1 → AtMost file at n 1 → Kept file kind size at n
  all_booleans k z m i h =
      let q : at + i * size + size ≤ length file = value-inside at size i n (length file) h there in
      let y : i * size ≡ i = rw z (omega arith) in
      let r : rule kind (take size (drop (at + i * size) file)) ≡ true = rw (k, y, z) (boolean-kept file (at + i) (omega arith) (m i h)) in
      (fixed_kept file kind size (at + i * size) q r, λ e. absurd (omega arith))

  pub all_chars : kind ≡ 12 → size ≡ 1 → AtMost file at n 127 → Kept file kind size at n
  all_chars k z m i h =
      let q : at + i * size + size ≤ length file = value-inside at size i n (length file) h there in
      let y : i * size ≡ i = rw z (omega arith) in (
        fixed_kept file kind size (at + i * size) q (no_rule kind (take size (drop (at + i * size) file)) (λ e. omega arith) (λ e. omega arith) (λ e. omega arith)),
        λ e. rw y (char-kept file (at + i) (omega arith) (m i h)),
      )

-- a table that has n rows from row `used` on has room for them
pub rows_fit : (g : Grid) (len used n : ℕ) → has_rows g len used n ≡ true → used + n ≤ g.room
unfolding has_rows
rows_fit g len used n e = leb-true (used + n) g.room (both (leb (used + n) g.room) (leb (width * g.room) len) e).0

-- a run of one value
pub one_run : (g : Grid) (file : List ℕ) (shared : ℕ) (p : Plain) (depth parent at used : ℕ) (w v : List ℕ) (o : Walk)
    → o ≡ leaf_answer used (plain_pad file p 0 at) (plain_value file g.room shared p at used depth) → v ≡ value_left g file w shared p at used depth parent
    → run_of g file shared (Same p 1) depth parent at used w ≡ onward o v (λ a u q x. (reaching u (in_word (0 + q)) a, x))
unfolding run_from turn_of
one_run g file shared p depth parent at used w v o e q = rw (e, q)
