-- Bytes that fit after the three before them make characters. Assumes nothing.
use mathlib.Core.Path.{◌≡◌, refl, sym, ◌∙◌}
use mathlib.Core.Bool.{Bool, true, false, ◌||◌, xor, or-true, true≢false, cond}
use mathlib.Core.List.{List}
use mathlib.Core.Logic.{◌⊎◌, inl, inr, ⊎_elim}
use Prim.Native.Nat.{ℕ, zero, suc, ◌+◌, ◌<◌, ◌≤◌}
use native.Mathlib.Nat.{add-zero}
use native.Mathlib.Omega.{arith}
use native.Mathlib.Decide.{dec_lt}
use lib.Dec.{leb, eqb}
use lib.ListN.{length, get_or, drop}
use borrow.Author.Tests.{leb-true, leb-false, le-leb, lt-leb, eqb-false, ne_eqb}
use Rattle.laws.specs.Small.{both, neither}
use Rattle.layout.specs.Number.{between}
use Rattle.text.specs.Passed.{Passed}
use Rattle.text.specs.Window.{Fits, AllFit, Part, Before, whole, one, two, three, Three}
use Rattle.text.proofs.Laws.{range_at, goes_on, char_here, passed_none, pass_ascii, pass_char}
use Rattle.reading.specs.Utf8.{size, size_two, size-three, size-four, least, most, least_known, follow}

-- ---- a byte that fits
pick_le : (t : Bool) (x y n : ℕ) → x ≤ n → y ≤ n → cond t x y ≤ n
pick_le true x y n p q = p
pick_le false x y n p q = q

most_high : (b : ℕ) → most b ≤ 0xBF
unfolding most
most_high b = pick_le (eqb b 0xED) 0x9F (cond (eqb b 0xF4) 0x8F 0xBF) 0xBF (omega arith) (pick_le (eqb b 0xF4) 0x8F 0xBF 0xBF (omega arith) (omega arith))

below_leads : (b d : ℕ) → b < 0xC0 → between (least b) (most b) d ≡ between 0x80 0xBF d
unfolding least most
below_leads b d h = rw (ne_eqb b 0xE0 (λ e. omega arith), ne_eqb b 0xF0 (λ e. omega arith), ne_eqb b 0xED (λ e. omega arith), ne_eqb b 0xF4 (λ e. omega arith))

outside : (low high d : ℕ) → between low high d ≡ false → (d < low) ⊎ (high < d)
outside low high d e = go (leb low d) refl where
  go : (t : Bool) → leb low d ≡ t → (d < low) ⊎ (high < d)
  go true q = inr (leb-false d high (sym (rw q) ∙ e))
  go false q = inl (leb-false low d q)

same : (s t : Bool) → xor s t ≡ false → s ≡ t
unfolding xor
same true true e = refl
same true false e = absurd (true≢false e)
same false true e = absurd (true≢false e)
same false false e = refl

module _ (a b c d : ℕ) where
  -- whether one of the three bytes before asks for the byte d
  abbrev pub needed : Bool
  needed = (leb 0xC0 c || leb 0xE0 b) || leb 0xF0 a

  -- whether d is a byte of no text
  abbrev pub never : Bool
  never = (leb 0xF5 d || eqb d 0xC0) || eqb d 0xC1

  in_range : needed ≡ between (least c) (most c) d → needed ≡ true → (least c ≤ d) × (d ≤ most c)
  in_range e n =
      let p = both (leb (least c) d) (leb d (most c)) (sym e ∙ n) in
      (leb-true (least c) d p.0, leb-true d (most c) p.1)

  follows : needed ≡ between (least c) (most c) d → needed ≡ true → (0x80 ≤ d) × (d ≤ 0xBF)
  follows e n = let p = in_range e n in (omega (arith, (least_known c).0), omega (arith, most_high c))

  leads : never ≡ false → (d < 0x80) ⊎ (0xBF < d) → (d < 0x80) ⊎ ((0xC2 ≤ d) × (d < 0xF5))
  leads e (inl l) = inl l
  leads e (inr l) =
      let p = neither (leb 0xF5 d || eqb d 0xC0) (eqb d 0xC1) e in
      let q = neither (leb 0xF5 d) (eqb d 0xC0) p.0 in
      let x = eqb-false d 0xC0 q.1 in
      let y = eqb-false d 0xC1 p.1 in
      inr (beyond (λ z. x z) (λ z. y z), leb-false 0xF5 d q.0) where
        beyond : (d ≡ 0xC0 → ⊥) → (d ≡ 0xC1 → ⊥) → 0xC2 ≤ d
        beyond x y = omega arith

  pub fits : (xor needed (between (least c) (most c) d) || never) ≡ false → Fits a b c d
  fits w =
      let p = neither (xor needed (between (least c) (most c) d)) never w in
      let e = same needed (between (least c) (most c) d) p.0 in
      record {
        starts = λ x y z.
            let n : needed ≡ false = rw (lt-leb 0xC0 c z, lt-leb 0xE0 b y, lt-leb 0xF0 a x) in
            leads p.1 (outside 0x80 0xBF d (sym (below_leads c d z) ∙ sym e ∙ n));
        second = λ z. in_range e (rw (le-leb 0xC0 c z));
        third = λ y. follows e (rw (le-leb 0xE0 b y, or-true (leb 0xC0 c)));
        fourth = λ x. follows e (rw (le-leb 0xF0 a x, or-true (leb 0xC0 c || leb 0xE0 b)));
      }

-- ---- a character that is begun
range_in : (s : List ℕ) (i low high : ℕ) → i < length s → low ≤ get_or s i 0 → get_or s i 0 ≤ high → follow 1 low high (drop i s) ≡ true
range_in s i low high h p q = range_at s i low high h ∙ rw (le-leb low (get_or s i 0) p, le-leb (get_or s i 0) high q)

module _ {s : List ℕ} {from p b : ℕ} where
  part_first : Part s from p 0 b → p + 1 < length s → least b ≤ get_or s (p + 1) 0 → get_or s (p + 1) 0 ≤ most b → Part s from p 1 b
  part_first q h l m = record { passed = q.passed; inside = q.inside; lead = q.lead; follows = range_in s (p + 1) (least b) (most b) h l m }

  part_next : (k : ℕ) → Part s from p (suc k) b → p + 1 + suc k < length s → 0x80 ≤ get_or s (p + 1 + suc k) 0 → get_or s (p + 1 + suc k) 0 ≤ 0xBF
      → Part s from p (suc (suc k)) b
  part_next k q h l m = record {
    passed = q.passed;
    inside = q.inside;
    lead = q.lead;
    follows = goes_on s (p + 1) k (least b) (most b) q.follows ∙ range_in s (p + 1 + suc k) 0x80 0xBF h l m;
  }

  part_whole : (k : ℕ) → Part s from p k b → size b ≡ suc k → Passed s from (p + suc k)
  part_whole k q e =
      pass_char s p q.passed (suc k) (sym (char_here s p k true q.inside (rw q.lead e) (rw q.lead q.follows))) (λ z. omega arith)

-- ---- one byte more
module _ (s : List ℕ) (from at a b c d : ℕ) (h : at < length s) (z : get_or s at 0 ≡ d) (f : Fits a b c d) where
  after_whole : a < 0xF0 → b < 0xE0 → c < 0xC0 → Passed s from at → Before s from (at + 1) b c d
  unfolding follow
  after_whole p q r t =
      ⊎_elim
      (λ l. whole (omega arith) (omega arith) (omega arith) (pass_ascii s at t h (rw z l)))
      (λ l. one at refl (omega arith) (omega arith) l.0 l.1 (record { passed = t; inside = h; lead = z; follows = refl }))
      (f.starts p q r)

  after_one : (p : ℕ) → at ≡ p + 1 → b < 0xE0 → 0xC2 ≤ c → c < 0xF5 → d ≤ 0xBF → Part s from p 0 c → Before s from (at + 1) b c d
  after_one p e q r t m u = go (dec_lt c 0xE0) where
    y : get_or s (p + 1) 0 ≡ d
    y = rw (← e) z

    n : at + 1 ≡ p + 2
    n = omega arith

    v : Part s from p 1 c
    v = part_first u (omega arith) (rw y (f.second (omega arith)).0) (rw y (f.second (omega arith)).1)

    go : Dec (c < 0xE0) → Before s from (at + 1) b c d
    go (yes l) = whole (omega arith) l (omega arith) (rw n (part_whole 1 v (size_two c r l)))
    go (no l) = two p n (omega arith) (omega arith) t (omega arith) v

  after_two : (p : ℕ) → at ≡ p + 2 → 0xE0 ≤ b → b < 0xF5 → c < 0xC0 → Part s from p 1 b → Before s from (at + 1) b c d
  after_two p e q r t u = go (dec_lt b 0xF0) where
    i : at ≡ p + 1 + 1
    i = omega arith

    y : get_or s (p + 1 + 1) 0 ≡ d
    y = rw (← i) z

    n : at + 1 ≡ p + 3
    n = omega arith

    v : Part s from p 2 b
    v = part_next 0 u (omega arith) (rw y (f.third q).0) (rw y (f.third q).1)

    go : Dec (b < 0xF0) → Before s from (at + 1) b c d
    go (yes l) = whole l (omega arith) (omega (arith, (f.third q).1)) (rw n (part_whole 2 v (size-three b q l)))
    go (no l) = three p n (omega arith) r t (omega (arith, (f.third q).1)) v

  after_three : (p : ℕ) → at ≡ p + 3 → 0xF0 ≤ a → a < 0xF5 → b < 0xC0 → c < 0xC0 → Part s from p 2 a → Before s from (at + 1) b c d
  after_three p e q r t w u =
      let i : at ≡ p + 1 + 2 = omega arith in
      let y : get_or s (p + 1 + 2) 0 ≡ d = rw (← i) z in
      let n : at + 1 ≡ p + 4 = omega arith in
      let v : Part s from p 3 a = part_next 1 u (omega arith) (rw y (f.fourth q).0) (rw y (f.fourth q).1) in
      whole (omega arith) (omega arith) (omega (arith, (f.fourth q).1)) (rw n (part_whole 3 v (size-four a q r)))

module _ (s : List ℕ) (from at a b c d : ℕ) where
  byte_more : at < length s → get_or s at 0 ≡ d → Fits a b c d → Before s from at a b c → Before s from (at + 1) b c d
  byte_more h z f (whole p q r t) = after_whole s from at a b c d h z f p q r t
  byte_more h z f (one p e q r t u v) = after_one s from at a b c d h z f p e r t u (omega (arith, (f.second (omega arith)).1, most_high c)) v
  byte_more h z f (two p e q r t u v) = after_two s from at a b c d h z f p e r t u v
  byte_more h z f (three p e q r t u v) = after_three s from at a b c d h z f p e q r t u v

-- ---- the three bytes at a place
module _ (s : List ℕ) (at : ℕ) where
  pub three_first : at + 3 ≤ length s → Fits 0 0 0 (get_or s at 0) → Fits 0 0 (get_or s at 0) (get_or s (at + 1) 0)
      → Fits 0 (get_or s at 0) (get_or s (at + 1) 0) (get_or s (at + 2) 0) → Three s at at
  three_first h f g k =
      let x = get_or s at 0 in
      let y = get_or s (at + 1) 0 in
      let p = byte_more s at at 0 0 0 x (omega arith) refl f (whole (omega arith) (omega arith) (omega arith) (passed_none s at (omega arith))) in
      let q = byte_more s at (at + 1) 0 0 x y (omega arith) refl g p in
      let m : at + 1 + 1 ≡ at + 2 = omega arith in
      let n : at + 2 + 1 ≡ at + 3 = omega arith in
      rw n at (byte_more s at (at + 2) 0 x y (get_or s (at + 2) 0) (omega arith) refl k (rw m at q))

  pub three-more : (from n : ℕ) → at + n + 3 ≤ length s → Three s from at → AllFit s at n → Three s from (at + n)
  three-more from zero h t f = rw (add-zero at) t
  three-more from (suc n) h t f =
      let r = three-more from n (omega arith) t (λ k l. f k (omega arith)) in
      let z : at + suc n ≡ at + n + 1 = omega arith in
      let u : at + n + 1 + 1 ≡ at + n + 2 = omega arith in
      let v : at + n + 1 + 2 ≡ at + n + 3 = omega arith in
      let w : at + n + 1 + 3 ≡ at + n + 3 + 1 = omega arith in
      rw (z, u, v, w) (byte_more s from (at + n + 3) (get_or s (at + n) 0) (get_or s (at + n + 1) 0) (get_or s (at + n + 2) 0) (get_or s (at + n + 3) 0) (omega arith) refl (f n (omega arith)) r)

  pub fit_more : (j : ℕ) (b w : Bool) → (b ≡ false → AllFit s at j)
      → (w ≡ false → Fits (get_or s (at + j) 0) (get_or s (at + j + 1) 0) (get_or s (at + j + 2) 0) (get_or s (at + j + 3) 0))
      → (b || w) ≡ false → AllFit s at (j + 1)
  fit_more j b w f g e k l = go (dec_lt k j) where
    go : Dec (k < j) → Fits (get_or s (at + k) 0) (get_or s (at + k + 1) 0) (get_or s (at + k + 2) 0) (get_or s (at + k + 3) 0)
    go (yes q) = f (neither b w e).0 k q
    go (no q) = let z : k ≡ j = omega arith in rw z (g (neither b w e).1)

  pub all_fit : (n j : ℕ) → j ≤ n → n ≤ j → AllFit s at j → AllFit s at n
  all_fit n j p q f = λ k l. f k (omega arith)

-- where the character starts that the three bytes at `at` leave open
pub record Starts (s : List ℕ) (from at a b c : ℕ) : Type 0 where
  pub by_third : 0xC0 ≤ c → Passed s from (at + 2)
  pub by_second : c < 0xC0 → 0xE0 ≤ b → Passed s from (at + 1)
  pub by_first : c < 0xC0 → b < 0xE0 → 0xF0 ≤ a → Passed s from at
  pub by_none : c < 0xC0 → b < 0xE0 → a < 0xF0 → Passed s from (at + 3)

starts_at : (s : List ℕ) (from at a b c : ℕ) → Before s from (at + 3) a b c → Starts s from at a b c
starts_at s from at a b c (whole p q r t) = record {
  by_third = λ h. absurd (omega arith);
  by_second = λ h i. absurd (omega arith);
  by_first = λ h i j. absurd (omega arith);
  by_none = λ h i j. t;
}
starts_at s from at a b c (one p e q r t u v) =
    let z : at + 2 ≡ p = omega arith in
    record { by_third = λ h. rw z v.passed; by_second = λ h. absurd (omega arith); by_first = λ h. absurd (omega arith); by_none = λ h. absurd (omega arith) }
starts_at s from at a b c (two p e q r t u v) =
    let z : at + 1 ≡ p = omega arith in
    record { by_third = λ h. absurd (omega arith); by_second = λ h i. rw z v.passed; by_first = λ h i. absurd (omega arith); by_none = λ h i. absurd (omega arith) }
starts_at s from at a b c (three p e q r t u v) =
    let z : at ≡ p = omega arith in
    record { by_third = λ h. absurd (omega arith); by_second = λ h i. absurd (omega arith); by_first = λ h i j. rw z v.passed; by_none = λ h i j. absurd (omega arith) }

pub three-starts : (s : List ℕ) (from at : ℕ) → Three s from at → Starts s from at (get_or s at 0) (get_or s (at + 1) 0) (get_or s (at + 2) 0)
three-starts s from at t = starts_at s from at (get_or s at 0) (get_or s (at + 1) 0) (get_or s (at + 2) 0) t
