-- Bytes of one kind, one after the other. Assumes nothing.
use Rattle.std.specs.Prelude.{◌≡◌, refl, Bool, true, false, ◌||◌, cond, List, ◌∷◌, ℕ, suc, ◌+◌, ◌-◌, ◌≤◌, ◌<◌, min, length, drop, get_or}
use Rattle.std.proofs.Common.{ap, ◌∙◌, arith, drop-cons}
use Rattle.std.proofs.Math.Decide.{dec_lt}
use Rattle.laws.specs.Small.{neither}

-- n bytes from a place on are of a kind
abbrev pub AllOf : (P : ℕ → Type 0) (s : List ℕ) (i n : ℕ) → Type 0
AllOf P s i n = (k : ℕ) → k < n → P (get_or s (i + k) 0)

-- those from one place to a later one
pub record Passed (P : ℕ → Type 0) (s : List ℕ) (from i : ℕ) : Type 0 where
  pub forward : from ≤ i
  pub inside : i ≤ length s
  pub all : AllOf P s from (i - from)

-- of n bytes from i on, those before `first` are of one kind, and the byte there, where it is one of them, is of the other
pub record First (P Q : ℕ → Type 0) (s : List ℕ) (i n first : ℕ) : Type 0 where
  pub within : first ≤ n
  pub before : AllOf P s i first
  pub there : first < n → Q (get_or s (i + first) 0)

-- of the first j of n bytes from i on, those before `first` are of one kind, and the byte there is of the other
pub record Nearest (P Q : ℕ → Type 0) (s : List ℕ) (i n j first : ℕ) : Type 0 where
  pub seen : j ≤ n
  pub within : first ≤ n
  pub before : (k : ℕ) → k < j → k < first → P (get_or s (i + k) 0)
  pub there : first < n → Q (get_or s (i + first) 0)

-- ---- Laws

-- the list from i on, where there is an i-th
pub cons_at : (s : List ℕ) (i : ℕ) → i < length s → drop i s ≡ get_or s i 0 ∷ drop (i + 1) s
cons_at s i h = drop-cons s i 0 h ∙ ap (λ (k : ℕ). get_or s i 0 ∷ drop k s) (let q : suc i ≡ i + 1 = omega arith in q)

module _ (P : ℕ → Type 0) where
  -- one byte more
  pub all_more : (s : List ℕ) (i j : ℕ) → AllOf P s i j → P (get_or s (i + j) 0) → AllOf P s i (j + 1)
  all_more s i j q u k h = go (dec_lt k j) where
    go : Dec (k < j) → P (get_or s (i + k) 0)
    go (yes l) = q k l
    go (no l) = let z : j ≡ k = omega arith in rw (← z) u

  -- one more byte of a block, of which `b` says whether one is not of the kind
  pub all_step : (s : List ℕ) (i j : ℕ) (b r : Bool) → (b ≡ false → AllOf P s i j) → (r ≡ false → P (get_or s (i + j) 0)) → (b || r) ≡ false → AllOf P s i (j + 1)
  all_step s i j b r f g e = let w = neither b r e in all_more s i j (f w.0) (g w.1)

  pub all_one : (s : List ℕ) (i : ℕ) → P (get_or s i 0) → AllOf P s i 1
  all_one s i q k h = let z : i + k ≡ i = omega arith in rw z q

  -- the bytes from one place to another, and n more
  pub all_on : (s : List ℕ) (from i : ℕ) → from ≤ i → AllOf P s from (i - from) → (n : ℕ) → AllOf P s i n → AllOf P s from (i + n - from)
  all_on s from i f a n q k l = go (dec_lt k (i - from)) where
    go : Dec (k < i - from) → P (get_or s (from + k) 0)
    go (yes m) = a k m
    go (no m) =
        let z : i + (from + k - i) ≡ from + k = omega arith in
        rw z at (q (from + k - i) (omega arith))

module _ {P Q : ℕ → Type 0} {s : List ℕ} {i n : ℕ} where
  pub nearest_none : Nearest P Q s i n 0 n
  nearest_none = record { seen = omega arith; within = omega arith; before = λ k h. absurd (omega arith); there = λ h. absurd (omega arith) }

  module _ {j first : ℕ} (r : Nearest P Q s i n j first) (l : j < n) where
    pub nearest_more : (o : Bool) {here next : ℕ} → (o ≡ false → P (get_or s (i + j) 0)) → (o ≡ true → Q (get_or s (i + j) 0)) → here ≡ cond o j n → next ≡ min first here → Nearest P Q s i n (j + 1) next
    nearest_more true {here} {next} p q e f = go (dec_lt j first) where
      go : Dec (j < first) → Nearest P Q s i n (j + 1) next
      go (yes h) =
          let z : next ≡ j = omega arith in
          rw z (record { seen = omega arith; within = omega arith; before = λ k a b. r.before k b (omega arith); there = λ a. q refl })
      go (no h) =
          let z : next ≡ first = omega arith in
          rw z (record { seen = omega arith; within = r.within; before = λ k a b. r.before k (omega arith) b; there = r.there })
    nearest_more false {here} {next} p q e f =
        let z : next ≡ first = omega (arith, r.within) in
        rw z (record { seen = omega arith; within = r.within; before = λ k a b. go k a b (dec_lt k j); there = r.there }) where
          go : (k : ℕ) → k < j + 1 → k < first → Dec (k < j) → P (get_or s (i + k) 0)
          go k a b (yes h) = r.before k h b
          go k a b (no h) = let y : j ≡ k = omega arith in rw (← y) (p refl)

module _ {P : ℕ → Type 0} {s : List ℕ} where
  pub passed_none : {i : ℕ} → i ≤ length s → Passed P s i i
  passed_none h = record { forward = omega arith; inside = h; all = λ k l. absurd (omega arith) }

  pub passed_more : {from i : ℕ} → Passed P s from i → (n : ℕ) → i + n ≤ length s → AllOf P s i n → Passed P s from (i + n)
  passed_more {from} {i} r n h q = record { forward = omega (arith, r.forward); inside = h; all = all_on P s from i r.forward r.all n q }

-- the same of other kinds
module _ {P P' : ℕ → Type 0} {s : List ℕ} {i : ℕ} where
  pub passed_as : {to : ℕ} → Passed P s i to → ((b : ℕ) → P b → P' b) → Passed P' s i to
  passed_as r f = record { forward = r.forward; inside = r.inside; all = λ k h. f (get_or s (i + k) 0) (r.all k h) }

  pub first_as : {Q Q' : ℕ → Type 0} {n first : ℕ} → First P Q s i n first → ((b : ℕ) → P b → P' b) → ((b : ℕ) → Q b → Q' b) → First P' Q' s i n first
  first_as {first = first} r f g = record {
    within = r.within;
    before = λ k h. f (get_or s (i + k) 0) (r.before k h);
    there = λ h. g (get_or s (i + first) 0) (r.there h);
  }
