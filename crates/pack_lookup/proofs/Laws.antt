-- A byte, a path and an entry at a time. Assumes nothing.
use mathlib.Core.Path.{◌≡◌, refl, sym, ap, ◌∙◌}
use mathlib.Core.Bool.{Bool, true, false, ◌&&◌, ◌||◌, not, cond}
use mathlib.Core.List.{List, [], ◌∷◌}
use Prim.Native.Nat.{ℕ, zero, suc, ◌+◌, ◌-◌, ◌<◌, ◌≤◌}
use native.Mathlib.Omega.{arith}
use lib.Dec.{ltb, leb, eqb}
use lib.ListN.{length, take, drop, get_or, length-drop}
use lib.Seq.{drop-cons, length-take-le}
use borrow.Author.Tests.{ltb-true, ltb-false, leb-true, leb-false, lt-ltb, le-ltb, le-leb, lt-leb, eqb-true, eqb-false, eq-eqb, ne_eqb}
use Rattle.std.specs.Char.{to_ascii_lowercase}
use Rattle.laws.specs.Small.{differ}
use Rattle.pack_layout.specs.Table.{entry, wholes}
use Rattle.pack_layout.specs.Lookup.{lower, lowered}
use Rattle.reading.specs.Same.{same}
use Rattle.pack_reading.specs.Lookup.{matches, found, find_in, find_of}
use Rattle.pack_lookup.specs.Compared.{SameAt, Compared}
use Rattle.pack_lookup.specs.Lookup.{entry_at, part, found_as}
use Rattle.std.specs.Prelude.{Some, None}

-- ---- A byte

pub lower_is : (b : ℕ) → to_ascii_lowercase b ≡ lower b
unfolding lower
lower_is b = go (leb 0x41 b) (leb b 0x5A) refl refl where
  go : (s t : Bool) → leb 0x41 b ≡ s → leb b 0x5A ≡ t → to_ascii_lowercase b ≡ cond (leb 0x41 b && leb b 0x5A) (b + 32) b
  go false t p q = rw (p, lt-ltb b 65 (leb-false 65 b p))
  go true false p q = rw (p, q, le-ltb b 65 (leb-true 65 b p), le-ltb b 91 (leb-false b 90 q))
  go true true p q = rw (p, q, le-ltb b 65 (leb-true 65 b p), lt-ltb b 91 (omega (arith, leb-true b 90 q)))

-- ---- Two paths

last_false : (t : Bool) → (t && false) ≡ false
last_false true = refl
last_false false = refl

pub length-lowered : (a : List ℕ) → length (lowered a) ≡ length a
unfolding lowered
length-lowered [] = refl
length-lowered (x ∷ a) = ap suc (length-lowered a)

-- lists of other lengths are not the same
pub same_lengths : (a b : List ℕ) → (length a ≡ length b → ⊥) → same a b ≡ false
unfolding same
same_lengths [] [] h = absurd (h refl)
same_lengths [] (y ∷ b) h = refl
same_lengths (x ∷ a) [] h = refl
same_lengths (x ∷ a) (y ∷ b) h = rw (same_lengths a b (λ e. h (ap suc e))) (last_false (eqb x y))

-- paths of one length that differ in a byte are not the same
pub unlike : (a b : List ℕ) → length a ≡ length b → (k : ℕ) → k < length a → (SameAt a b k → ⊥) → false ≡ same (lowered a) (lowered b)
unfolding lowered same
unlike [] b e k h d = absurd (omega arith)
unlike (x ∷ a) [] e k h d = absurd (omega arith)
unlike (x ∷ a) (y ∷ b) e zero h d = rw (ne_eqb (lower x) (lower y) d)
unlike (x ∷ a) (y ∷ b) e (suc k) h d = rw (← unlike a b (omega arith) k (omega arith) d) (sym (last_false (eqb (lower x) (lower y))))

pub alike : (a b : List ℕ) → length a ≡ length b → ((k : ℕ) → k < length a → SameAt a b k) → true ≡ same (lowered a) (lowered b)
unfolding lowered same
alike [] [] e h = refl
alike [] (y ∷ b) e h = absurd (omega arith)
alike (x ∷ a) [] e h = absurd (omega arith)
alike (x ∷ a) (y ∷ b) e h = rw (eq-eqb (lower x) (lower y) (h 0 (omega arith))) (alike a b (omega arith) (λ k l. h (suc k) (omega arith)))

-- ---- A block

module _ (a b : List ℕ) (i : ℕ) where
  pub none_compared : Compared a b i 0 false
  none_compared = record { agree = λ r k f t. absurd (omega arith); differ = λ r. differ cc }

  pub one_more : (j : ℕ) (other : Bool) {x y : ℕ} → x ≡ lower (get_or a (i + j) 0) → y ≡ lower (get_or b (i + j) 0) → Compared a b i j other
      → Compared a b i (j + 1) (other || not (eqb x y))
  one_more j true p q c =
      record { agree = λ r. differ cc; differ = λ r. let d = c.differ refl in record { index = d.index; from = d.from; to = omega (arith, d.to); unlike = d.unlike } }
  one_more j false {x} {y} p q c = go (eqb x y) refl where
    go : (t : Bool) → eqb x y ≡ t → Compared a b i (j + 1) (not t)
    go true e = record {
      agree = λ r k f t. here k f t (ltb k (i + j)) refl;
      differ = λ r. differ cc;
    } where
      here : (k : ℕ) → i ≤ k → k < i + (j + 1) → (s : Bool) → ltb k (i + j) ≡ s → SameAt a b k
      here k f t true l = c.agree refl k f (ltb-true k (i + j) l)
      here k f t false l =
          let z : k ≡ i + j = omega (arith, ltb-false k (i + j) l) in
          rw z (sym p ∙ eqb-true x y e ∙ q)
    go false e = record {
      agree = λ r. differ cc;
      differ = λ r. record { index = i + j; from = omega arith; to = omega arith; unlike = λ s. eqb-false x y e (p ∙ s ∙ sym q) };
    }

-- ---- Two paths, the last bytes first

-- the last n bytes are the same, and those up to i
pub record Agree (a b : List ℕ) (last i : ℕ) : Type 0 where
  pub behind : (k : ℕ) → last ≤ k → k < length a → SameAt a b k
  pub before : (k : ℕ) → k < i → SameAt a b k

module _ {a b : List ℕ} (equal : length a ≡ length b) where
  pub other_block : {i n : ℕ} {r : Bool} → i + n ≤ length a → Compared a b i n r → r ≡ true → false ≡ same (lowered a) (lowered b)
  other_block h c r = let d = c.differ r in unlike a b equal d.index (omega (arith, d.to)) d.unlike

  pub same_start : {last n : ℕ} {r : Bool} → last + n ≡ length a → Compared a b last n r → r ≡ false → Agree a b last 0
  same_start h c r = record { behind = λ k f t. c.agree r k f (omega arith); before = λ k t. absurd (omega arith) }

  pub same_next : {last i n : ℕ} {r : Bool} → Agree a b last i → Compared a b i n r → r ≡ false → Agree a b last (i + n)
  same_next {last} {i} {n} g c r = record { behind = g.behind; before = λ k t. here k t (ltb k i) refl } where
    here : (k : ℕ) → k < i + n → (s : Bool) → ltb k i ≡ s → SameAt a b k
    here k t true l = g.before k (ltb-true k i l)
    here k t false l = c.agree r k (ltb-false k i l) t

  pub same_end : {last i : ℕ} → Agree a b last i → last ≤ i → true ≡ same (lowered a) (lowered b)
  same_end {last} {i} g h = alike a b equal (λ k t. here k t (ltb k last) refl) where
    here : (k : ℕ) → k < length a → (s : Bool) → ltb k last ≡ s → SameAt a b k
    here k t true l = g.before k (omega (arith, ltb-true k last l))
    here k t false l = g.behind k (ltb-false k last l) t

pub other_lengths : (a b : List ℕ) → (length a ≡ length b → ⊥) → false ≡ same (lowered a) (lowered b)
other_lengths a b h = sym (same_lengths (lowered a) (lowered b) (λ e. h (sym (length-lowered a) ∙ e ∙ length-lowered b)))

-- ---- An entry

module _ (file path : List ℕ) (start size first count : ℕ) where
  pub no_path : size ≡ 0 → false ≡ matches file path (entry start size first count)
  unfolding matches
  no_path e = rw e

  pub path_past : length file < start + size → false ≡ matches file path (entry start size first count)
  unfolding matches
  path_past h = rw (lt-leb (start + size) (length file) h, last_false (leb 1 size))

  pub data_past : length file < first + count → false ≡ matches file path (entry start size first count)
  unfolding matches
  data_past h = rw (lt-leb (first + count) (length file) h, last_false (leb (start + size) (length file)), last_false (leb 1 size))

  pub path_other : same (lowered (take (start + size - start) (drop start file))) (lowered path) ≡ false → false ≡ matches file path (entry start size first count)
  unfolding matches
  path_other u =
      let e : start + size - start ≡ size = omega arith in
      let v : same (lowered (take size (drop start file))) (lowered path) ≡ false = rw e at u in
      rw (v, last_false (leb (first + count) (length file)), last_false (leb (start + size) (length file)), last_false (leb 1 size))

  pub path_inside : 1 ≤ size → start + size ≤ length file → first + count ≤ length file
      → same (lowered (take (start + size - start) (drop start file))) (lowered path) ≡ matches file path (entry start size first count)
  unfolding matches
  path_inside some p d =
      let e : start + size - start ≡ size = omega arith in
      rw (e, le-leb 1 size some, le-leb (start + size) (length file) p, le-leb (first + count) (length file) d)

  pub other_size : (size ≡ length path → ⊥) → false ≡ matches file path (entry start size first count)
  unfolding matches
  other_size h = go (leb (start + size) (length file)) refl where
    go : (t : Bool) → leb (start + size) (length file) ≡ t → false ≡ matches file path (entry start size first count)
    go false q = rw (q, last_false (leb 1 size))
    go true q =
        let l : length (take size (drop start file)) ≡ size = length-take-le size (drop start file) (rw length-drop (omega (arith, leb-true (start + size) (length file) q))) in
        let s : same (lowered (take size (drop start file))) (lowered path) ≡ false = sym (other_lengths (take size (drop start file)) path (λ e. h (sym l ∙ e))) in
        rw (s, last_false (leb (first + count) (length file)), q, last_false (leb 1 size))

-- ---- A table

short : (l : List ℕ) → length l < 4 → wholes l ≡ []
unfolding wholes
short [] h = refl
short (a ∷ []) h = refl
short (a ∷ b ∷ []) h = refl
short (a ∷ b ∷ c ∷ []) h = refl
short (a ∷ b ∷ c ∷ d ∷ l) h = absurd (omega arith)

whole : (t : List ℕ) (i : ℕ) → i + 4 ≤ length t → wholes (drop i t) ≡ entry_at t i ∷ wholes (drop (i + 4) t)
unfolding wholes
whole t i h =
    let h₁ : i + 1 ≡ suc i = omega arith in
    let h₂ : i + 2 ≡ suc (suc i) = omega arith in
    let h₃ : i + 3 ≡ suc (suc (suc i)) = omega arith in
    let h₄ : i + 4 ≡ suc (suc (suc (suc i))) = omega arith in
    rw (drop-cons t i 0 (omega arith), drop-cons t (suc i) 0 (omega arith), drop-cons t (suc (suc i)) 0 (omega arith), drop-cons t (suc (suc (suc i))) 0 (omega arith), h₁, h₂, h₃, h₄)

module _ (file table path : List ℕ) where
  -- the entries from word i on decide
  pub record Looking (i : ℕ) : Type 0 where
    pub few : i ≤ length table
    pub rest : find_in file path (wholes (drop i table)) ≡ find_of file table path

  pub look : Looking 0
  unfolding find_of
  look = record { few = omega arith; rest = refl }

  module _ {i : ℕ} (l : Looking i) where
    pub look_end : length table - i < 4 → None ≡ found_as (find_of file table path)
    unfolding find_in
    look_end h =
        let e : wholes (drop i table) ≡ [] = short (drop i table) (rw length-drop h) in
        rw (← l.rest, e)

    module _ (h : 4 ≤ length table - i) where
      step_look : find_of file table path ≡ cond (matches file path (entry_at table i)) (found (get_or table (i + 2) 0) (get_or table (i + 3) 0)) (find_in file path (wholes (drop (i + 4) table)))
      unfolding find_in
      step_look = sym l.rest ∙ rw (whole table i (omega arith))

      pub look_found : true ≡ matches file path (entry_at table i) → Some (part (get_or table (i + 2) 0) (get_or table (i + 3) 0)) ≡ found_as (find_of file table path)
      look_found t = rw (step_look, ← t)

      pub look_next : false ≡ matches file path (entry_at table i) → Looking (i + 4)
      look_next t = record { few = omega arith; rest = sym (step_look ∙ rw (← t)) }
