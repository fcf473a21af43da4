-- The laws of characters at a place of a list, as the code meets them. Assumes nothing.
use mathlib.Core.Path.{◌≡◌, refl, sym, ap, subst, ◌∙◌}
use mathlib.Core.Bool.{Bool, true, false, ◌||◌, and-true, cond}
use mathlib.Core.List.{List, ◌∷◌}
use Prim.Native.Nat.{ℕ, zero, suc, ◌+◌, ◌*◌, ◌-◌, ◌<◌, ◌≤◌}
use native.Mathlib.Nat.{add-zero}
use native.Mathlib.Numerals.{add-one}
use native.Mathlib.Omega.{arith}
use native.Mathlib.Decide.{dec_lt}
use lib.ListN.{length, get_or, drop, length-drop, drop_of_length-le}
use lib.Seq.{drop-cons, drop-drop, get_or-drop}
use lib.Dec.{leb}
use borrow.Author.Tests.{le-leb, lt-leb, leb-true, leb-false}
use Rattle.laws.specs.Small.{both, neither}
use Rattle.layout.specs.Number.{between}
use Rattle.reading.specs.Answer.{refused, read, check, within, true-within}
use Rattle.text.specs.Passed.{Ascii, Passed, Ran}
use Rattle.reading.specs.Utf8.{size, size_one, size_low, size-four, size_high, least, most, follow, follow-fits, follow_first, follow_last, least_known, char_size, sized, char-fits, bits, mark, char_of, char_at, chars, utf8s, utf8s_stops, utf8s_steps}

module _ (s : List ℕ) (i : ℕ) where
  pub at_byte : i < length s → drop i s ≡ get_or s i 0 ∷ drop (i + 1) s
  at_byte h = rw (add-one i) (drop-cons s i 0 h)

  -- ---- the bytes that follow
  pub range_past : (low high : ℕ) → length s ≤ i → follow 1 low high (drop i s) ≡ false
  unfolding follow
  range_past low high h = rw (drop_of_length-le s h)

  pub range_at : (low high : ℕ) → i < length s → follow 1 low high (drop i s) ≡ between low high (get_or s i 0)
  unfolding follow
  range_at low high h = rw (at_byte h) (and-true (between low high (get_or s i 0)))

  pub goes_on : (k low high : ℕ) → follow (suc k) low high (drop i s) ≡ true → follow (suc (suc k)) low high (drop i s) ≡ follow 1 0x80 0xBF (drop (i + suc k) s)
  goes_on k low high e = follow_last k low high (drop i s) ∙ rw (e, drop-drop (suc k) i s)

  pub breaks : (k low high : ℕ) → follow (suc k) low high (drop i s) ≡ false → follow (suc (suc k)) low high (drop i s) ≡ false
  breaks k low high e = follow_last k low high (drop i s) ∙ rw e

  pub stays_broken : (m d low high : ℕ) → follow (suc m) low high (drop i s) ≡ false → follow (suc m + d) low high (drop i s) ≡ false
  stays_broken m zero low high e = let z : suc m + 0 ≡ suc m = omega arith in rw z e
  stays_broken m (suc d) low high e =
      let z : suc m + suc d ≡ suc (suc (m + d)) = omega arith in
      let y : suc m + d ≡ suc (m + d) = omega arith in
      rw z (breaks (m + d) low high (rw y at (stays_broken m d low high e)))

  -- one byte more, or none, where j bytes follow
  pub one_more : (j low high : ℕ) → 1 ≤ j → follow j low high (drop i s) ≡ true → follow (j + 1) low high (drop i s) ≡ follow 1 0x80 0xBF (drop (i + j) s)
  one_more zero low high n e = absurd (omega arith)
  one_more (suc j) low high n e = let z : suc j + 1 ≡ suc (suc j) = omega arith in rw z (goes_on j low high e)

  pub follow-inside : (j low high : ℕ) → 1 ≤ j → follow j low high (drop i s) ≡ true → i + j ≤ length s
  follow-inside j low high n e = omega (arith, follow-fits j low high (drop i s) e, length-drop i s)

  -- ---- the character at a place
  pub no_char : i < length s → size (get_or s i 0) ≡ 0 → char_size (drop i s) ≡ 0
  unfolding char_size follow
  no_char h e = rw (at_byte h, e)

  pub char_here : (k : ℕ) (t : Bool) → i < length s → size (get_or s i 0) ≡ suc k
      → follow k (least (get_or s i 0)) (most (get_or s i 0)) (drop (i + 1) s) ≡ t → char_size (drop i s) ≡ cond t (suc k) 0
  char_here k t h e f = rw (at_byte h) (sized (get_or s i 0) k (drop (i + 1) s) e ∙ rw f)

  -- ---- one character
  pub char-none : i < length s → within 3 (size (get_or s i 0)) ≡ false → char_at s i ≡ refused 15 i
  unfolding char_at char_of check
  char-none h e = rw (at_byte h, e)

  pub char_cut : (k : ℕ) → i < length s → size (get_or s i 0) ≡ suc k → k ≤ 2 → length s - i < suc k → char_at s i ≡ refused 1 i
  unfolding char_at char_of check
  char_cut k h e m l =
      let f : length (drop (i + 1) s) ≡ length s - (i + 1) = length-drop (i + 1) s in
      rw (at_byte h, e, true-within 3 (suc k) (omega arith) (omega arith), lt-leb (suc k) (suc (length (drop (i + 1) s))) (omega arith))

  pub char-read : (k : ℕ) (t : Bool) → i < length s → size (get_or s i 0) ≡ suc k → k ≤ 2 → suc k ≤ length s - i
      → follow k (least (get_or s i 0)) (most (get_or s i 0)) (drop (i + 1) s) ≡ t
      → char_at s i ≡ check t 15 i (read (bits (get_or s i 0 - mark (suc k)) k (drop (i + 1) s)) (i + suc k))
  unfolding char_at char_of check
  char-read k t h e m l g =
      let f : length (drop (i + 1) s) ≡ length s - (i + 1) = length-drop (i + 1) s in
      rw (at_byte h, e, true-within 3 (suc k) (omega arith) (omega arith), le-leb (suc k) (suc (length (drop (i + 1) s))) (omega arith), g)

  -- the other bytes of a character are at least 80 hex
  pub second-least : (k b : ℕ) → follow (suc k) (least b) (most b) (drop i s) ≡ true → 0x80 ≤ get_or s i 0
  second-least k b e =
      let z : get_or (drop i s) 0 0 ≡ get_or s i 0 = rw (get_or-drop i s 0 0, add-zero i) in
      omega (arith, follow_first k (least b) (most b) (drop i s) e, (least_known b).0)

  pub third_least : (b : ℕ) → follow 2 (least b) (most b) (drop (i + 1) s) ≡ true → 0x80 ≤ get_or s (i + 2) 0
  third_least b e =
      let p = both (follow 1 (least b) (most b) (drop (i + 1) s)) (follow 1 0x80 0xBF (drop 1 (drop (i + 1) s))) (sym (follow_last 0 (least b) (most b) (drop (i + 1) s)) ∙ e) in
      let n : i + 1 + 1 ≡ i + 2 = omega arith in
      let q : follow 1 0x80 0xBF (drop (i + 2) s) ≡ true = rw (← n, ← drop-drop 1 (i + 1) s) p.1 in
      let z : get_or (drop (i + 2) s) 0 0 ≡ get_or s (i + 2) 0 = rw (get_or-drop (i + 2) s 0 0, add-zero (i + 2)) in
      omega (arith, follow_first 0 0x80 0xBF (drop (i + 2) s) q)

  pub bits_at : (v k : ℕ) → i < length s → bits v (suc k) (drop i s) ≡ bits (v * 64 + (get_or s i 0 - 0x80)) k (drop (i + 1) s)
  unfolding bits
  bits_at v k h = rw (at_byte h)

-- ---- one character, by its lead byte
module _ (s : List ℕ) (i : ℕ) (h : i < length s) where
  pub low_refused : 0x80 ≤ get_or s i 0 → get_or s i 0 < 0xC2 → char_at s i ≡ refused 15 i
  unfolding within
  low_refused p q = char-none s i h (rw (size_low (get_or s i 0) p q))

  pub high_refused : 0xF0 ≤ get_or s i 0 → char_at s i ≡ refused 15 i
  unfolding within
  high_refused p = char-none s i h (go (dec_lt (get_or s i 0) 0xF5)) where
    go : Dec (get_or s i 0 < 0xF5) → within 3 (size (get_or s i 0)) ≡ false
    go (yes q) = rw (size-four (get_or s i 0) p q)
    go (no q) = rw (size_high (get_or s i 0) (omega arith))

  pub one_read : get_or s i 0 < 0x80 → char_at s i ≡ read (get_or s i 0) (i + 1)
  unfolding bits check follow
  one_read p =
      let z : get_or s i 0 - 0 ≡ get_or s i 0 = omega arith in
      char-read s i 0 true h (size_one (get_or s i 0) p) (omega arith) (omega arith) refl ∙ rw z

  pub two_read : size (get_or s i 0) ≡ 2 → 2 ≤ length s - i → follow 1 (least (get_or s i 0)) (most (get_or s i 0)) (drop (i + 1) s) ≡ true
      → char_at s i ≡ read ((get_or s i 0 - 0xC0) * 64 + (get_or s (i + 1) 0 - 0x80)) (i + 2)
  unfolding bits check
  two_read e l f = char-read s i 1 true h e (omega arith) l f ∙ rw (bits_at s (i + 1) (get_or s i 0 - 0xC0) 0 (omega arith))

  pub three-read : size (get_or s i 0) ≡ 3 → 3 ≤ length s - i → follow 2 (least (get_or s i 0)) (most (get_or s i 0)) (drop (i + 1) s) ≡ true
      → char_at s i ≡ read (((get_or s i 0 - 0xE0) * 64 + (get_or s (i + 1) 0 - 0x80)) * 64 + (get_or s (i + 2) 0 - 0x80)) (i + 3)
  unfolding bits check
  three-read e l f =
      let v = get_or s i 0 - 0xE0 in
      let z : i + 1 + 1 ≡ i + 2 = omega arith in
      char-read s i 2 true h e (omega arith) l f
      ∙ rw (bits_at s (i + 1) v 1 (omega arith), z, bits_at s (i + 2) (v * 64 + (get_or s (i + 1) 0 - 0x80)) 0 (omega arith))

-- ---- a text
module _ (s : List ℕ) (i : ℕ) where
  pub char-step : (k : ℕ) → k ≡ char_size (drop i s) → (k ≡ 0 → ⊥) → utf8s (drop (i + k) s) ≡ utf8s (drop i s)
  char-step zero e n = absurd (n refl)
  char-step (suc k) e n = sym (utf8s_steps k (drop i s) (sym e) ∙ ap utf8s (drop-drop (suc k) i s))

  ascii_step : i < length s → get_or s i 0 < 0x80 → utf8s (drop (i + 1) s) ≡ utf8s (drop i s)
  unfolding follow
  ascii_step h l = char-step 1 (sym (char_here s i 0 true h (size_one (get_or s i 0) l) refl)) (λ z. omega arith)

module _ (s : List ℕ) (i : ℕ) where
  -- one byte more of a block, in which so far b says whether there is another byte than ASCII
  pub block_step : (j : ℕ) (b : Bool) → (b ≡ false → Ascii s i j) → (b || leb 0x80 (get_or s (i + j) 0)) ≡ false → Ascii s i (j + 1)
  block_step j b f e k h = go (dec_lt k j) where
    w : (b ≡ false) × (leb 0x80 (get_or s (i + j) 0) ≡ false)
    w = neither b (leb 0x80 (get_or s (i + j) 0)) e

    go : Dec (k < j) → get_or s (i + k) 0 < 0x80
    go (yes l) = f w.0 k l
    go (no l) =
        let z : k ≡ j = omega arith in
        rw z (leb-false 0x80 (get_or s (i + j) 0) w.1)

  pub passed_none : i ≤ length s → Passed s i i
  passed_none h = record { forward = omega arith; inside = h; same = refl }

  module _ {from : ℕ} (p : Passed s from i) where
    pub pass : (n : ℕ) → i + n ≤ length s → utf8s (drop (i + n) s) ≡ utf8s (drop i s) → Passed s from (i + n)
    pass n h e = record { forward = omega arith; inside = h; same = e ∙ p.same }

    pub pass_ascii : i < length s → get_or s i 0 < 0x80 → Passed s from (i + 1)
    pass_ascii h l = pass 1 (omega arith) (ascii_step s i h l)

    pub passed_on : (j : ℕ) → Passed s i j → Passed s from j
    passed_on j q = record { forward = omega arith; inside = q.inside; same = q.same ∙ p.same }

    pub pass_char : (k : ℕ) → k ≡ char_size (drop i s) → (k ≡ 0 → ⊥) → Passed s from (i + k)
    pass_char k e n = pass k (omega (arith, char-fits (drop i s), length-drop i s)) (char-step s i k e n)

    pub ran_to : length s ≤ i → Ran s from i
    ran_to h = record { passed = p; stops = λ l. absurd (omega arith) }

    pub ran_out : (k : ℕ) → i < length s → k ≡ char_size (drop i s) → k ≡ 0 → Ran s from i
    ran_out k h e z = record { passed = p; stops = λ l. utf8s_stops (drop i s) (omega (arith, length-drop i s)) (sym e ∙ z) }

-- past bytes that are ASCII
pub pass_block : (s : List ℕ) (n i : ℕ) → i + n ≤ length s → Ascii s i n → Passed s i (i + n)
pass_block s zero i h a = let z : i + 0 ≡ i = omega arith in rw z (passed_none s i (omega arith))
pass_block s (suc n) i h a =
    let z : i + suc n ≡ i + 1 + n = omega arith in
    let first : get_or s i 0 < 0x80 = let y : i + 0 ≡ i = omega arith in rw y at (a 0 (omega arith)) in
    let one = pass_ascii s i (passed_none s i (omega arith)) (omega arith) first in
    rw z (passed_on s (i + 1) one (i + 1 + n) (pass_block s n (i + 1) (omega arith) (λ k l. let x : i + 1 + k ≡ i + suc k = omega arith in rw x (a (suc k) (omega arith)))))

-- a part of a block, from a later place on
pub later-ascii : (s : List ℕ) (from n i : ℕ) → from ≤ i → Ascii s from n → Ascii s i (from + n - i)
later-ascii s from n i h a k l =
    let z : i + k ≡ from + (i + k - from) = omega arith in
    rw z (a (i + k - from) (omega arith))

-- past all bytes, where the first n and the last n are ASCII and none stands between them
pub two_ascii : (s : List ℕ) (n : ℕ) → n ≤ length s → length s ≤ n + n → Ascii s 0 n → Ascii s (length s - n) n → Passed s 0 (length s)
two_ascii s n h m a b =
    let last = length s - n in
    let k = last + n - (0 + n) in
    let z : 0 + n + k ≡ length s = omega arith in
    let rest = pass_block s k (0 + n) (omega arith) (later-ascii s last n (0 + n) (omega arith) b) in
    passed_on s (0 + n) (pass_block s n 0 (omega arith) a) (length s) (subst (λ x. Passed s (0 + n) x) z rest)

pub passed_all : (s : List ℕ) (i : ℕ) → Passed s 0 i → length s ≤ i → utf8s s ≡ true
unfolding utf8s chars
passed_all s i p h = sym p.same ∙ rw (drop_of_length-le s h)

-- one character after the other comes to the end where all are passed, and only there
pub ran_all : (s : List ℕ) (from i : ℕ) → Passed s 0 from → Ran s from i → leb (length s) i ≡ utf8s s
ran_all s from i p r = go (leb (length s) i) refl where
  q : Passed s 0 i
  q = passed_on s from p i r.passed

  go : (t : Bool) → leb (length s) i ≡ t → t ≡ utf8s s
  go true t = sym (passed_all s i q (leb-true (length s) i t))
  go false t = sym (r.stops (leb-false (length s) i t)) ∙ q.same
