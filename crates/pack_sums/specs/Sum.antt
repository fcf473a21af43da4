-- Two reports added word by word, from the first on. Assumes nothing.
use Rattle.std.specs.Prelude.{◌≡◌, refl, Bool, true, false, ◌&&◌, List, [], ◌∷◌, ℕ, zero, suc, ◌+◌, ◌-◌, ◌≤◌, ◌<◌, ◌^◌, ltb, leb, length, get_or, set, min, Result, Ok, Err, ⊤}
use Rattle.std.proofs.Common.{ap, arith, lt-ltb, le-ltb, ltb-true, leb-true, leb-false}
use Rattle.laws.specs.Small.{both}
use Rattle.answers.specs.declared.Refusal.{Refusal}
use Rattle.answers.specs.Refusals.{refusal}
use Rattle.pack_figures.specs.Report as Report
use Rattle.pack_figures.specs.Report.{sums, fits, sum_of, left, unchanged, added}

-- the first so many words with those of another added
unfoldable pub sums_to : (i : ℕ) (a b : List ℕ) → List ℕ
sums_to zero a b = a
sums_to (suc i) [] b = []
sums_to (suc i) (x ∷ a) [] = x ∷ a
sums_to (suc i) (x ∷ a) (y ∷ b) = (x + y) ∷ sums_to i a b

-- no sum from a word on passes 2 to the 64 less 1
unfoldable pub fits_from : (i : ℕ) (a b : List ℕ) → Bool
fits_from zero a b = fits a b
fits_from (suc i) [] b = true
fits_from (suc i) (x ∷ a) [] = true
fits_from (suc i) (x ∷ a) (y ∷ b) = fits_from i a b

-- a refusal, or that the report is added
abbrev pub answer_of : Report.Added → Result ⊤ Refusal
answer_of (unchanged number place) = Err (refusal number place)
answer_of (added s) = Ok tt

-- ---- Whether all sums fit

fits-end : (i : ℕ) (a b : List ℕ) → length a ≤ i → fits_from i a b ≡ true
unfolding fits_from fits
fits-end zero [] b h = refl
fits-end zero (x ∷ a) b h = absurd (omega arith)
fits-end (suc i) [] b h = refl
fits-end (suc i) (x ∷ a) [] h = refl
fits-end (suc i) (x ∷ a) (y ∷ b) h = fits-end i a b (omega arith)

fits_other_end : (i : ℕ) (a b : List ℕ) → length b ≤ i → fits_from i a b ≡ true
unfolding fits_from fits
fits_other_end zero [] b h = refl
fits_other_end zero (x ∷ a) [] h = refl
fits_other_end zero (x ∷ a) (y ∷ b) h = absurd (omega arith)
fits_other_end (suc i) [] b h = refl
fits_other_end (suc i) (x ∷ a) [] h = refl
fits_other_end (suc i) (x ∷ a) (y ∷ b) h = fits_other_end i a b (omega arith)

pub fits_ends : (i : ℕ) (a b : List ℕ) → min (length a) (length b) ≤ i → fits_from i a b ≡ true
fits_ends i a b h = go (leb (length a) i) refl where
  go : (t : Bool) → leb (length a) i ≡ t → fits_from i a b ≡ true
  go true e = fits-end i a b (leb-true (length a) i e)
  go false e = fits_other_end i a b (let l = leb-false (length a) i e in omega arith)

-- a word and its partner, and the others
fits-step : (i : ℕ) (a b : List ℕ) → i < length a → i < length b → fits_from i a b ≡ (ltb (get_or a i 0 + get_or b i 0) (2 ^ 64) && fits_from (suc i) a b)
unfolding fits_from fits
fits-step i [] b h k = absurd (omega arith)
fits-step i (x ∷ a) [] h k = absurd (omega arith)
fits-step zero (x ∷ a) (y ∷ b) h k = refl
fits-step (suc i) (x ∷ a) (y ∷ b) h k = fits-step i a b (omega arith) (omega arith)

pub fits_on : (i : ℕ) (a b : List ℕ) → i < length a → i < length b → get_or b i 0 ≤ 2 ^ 64 - 1 - get_or a i 0 → get_or a i 0 < 2 ^ 64 → fits_from i a b ≡ fits_from (i + 1) a b
fits_on i a b h k l m =
    let z : i + 1 ≡ suc i = omega arith in
    rw (fits-step i a b h k, lt-ltb (get_or a i 0 + get_or b i 0) (2 ^ 64) (omega arith), z)

pub fits_not : (i : ℕ) (a b : List ℕ) → i < length a → i < length b → 2 ^ 64 - 1 - get_or a i 0 < get_or b i 0 → false ≡ fits_from i a b
fits_not i a b h k l = rw (fits-step i a b h k, le-ltb (get_or a i 0 + get_or b i 0) (2 ^ 64) (omega arith))

pub fits_word : (i : ℕ) (a b : List ℕ) → fits a b ≡ true → i < length a → i < length b → get_or a i 0 + get_or b i 0 < 2 ^ 64
unfolding fits
fits_word i [] b t h k = absurd (omega arith)
fits_word i (x ∷ a) [] t h k = absurd (omega arith)
fits_word zero (x ∷ a) (y ∷ b) t h k = ltb-true (x + y) (2 ^ 64) (both (ltb (x + y) (2 ^ 64)) (fits a b) t).0
fits_word (suc i) (x ∷ a) (y ∷ b) t h k = fits_word i a b (both (ltb (x + y) (2 ^ 64)) (fits a b) t).1 (omega arith) (omega arith)

-- ---- The sums

pub sums_word : (i : ℕ) (a b : List ℕ) → get_or (sums_to i a b) i 0 ≡ get_or a i 0
unfolding sums_to
sums_word zero a b = refl
sums_word (suc i) [] b = refl
sums_word (suc i) (x ∷ a) [] = refl
sums_word (suc i) (x ∷ a) (y ∷ b) = sums_word i a b

sums-step : (i : ℕ) (a b : List ℕ) → i < length a → i < length b → set (sums_to i a b) i (get_or a i 0 + get_or b i 0) ≡ sums_to (suc i) a b
unfolding sums_to
sums-step i [] b h k = absurd (omega arith)
sums-step i (x ∷ a) [] h k = absurd (omega arith)
sums-step zero (x ∷ a) (y ∷ b) h k = refl
sums-step (suc i) (x ∷ a) (y ∷ b) h k = ap (λ (l : List ℕ). (x + y) ∷ l) (sums-step i a b (omega arith) (omega arith))

pub sums_on : (i : ℕ) (a b : List ℕ) → i < length a → i < length b → set (sums_to i a b) i (get_or (sums_to i a b) i 0 + get_or b i 0) ≡ sums_to (i + 1) a b
sums_on i a b h k =
    let z : i + 1 ≡ suc i = omega arith in
    rw (sums_word i a b, z) (sums-step i a b h k)

sums-end : (i : ℕ) (a b : List ℕ) → length a ≤ i → sums_to i a b ≡ sums a b
unfolding sums_to sums
sums-end zero [] b h = refl
sums-end zero (x ∷ a) b h = absurd (omega arith)
sums-end (suc i) [] b h = refl
sums-end (suc i) (x ∷ a) [] h = refl
sums-end (suc i) (x ∷ a) (y ∷ b) h = ap (λ (l : List ℕ). (x + y) ∷ l) (sums-end i a b (omega arith))

sums_other_end : (i : ℕ) (a b : List ℕ) → length b ≤ i → sums_to i a b ≡ sums a b
unfolding sums_to sums
sums_other_end zero [] b h = refl
sums_other_end zero (x ∷ a) [] h = refl
sums_other_end zero (x ∷ a) (y ∷ b) h = absurd (omega arith)
sums_other_end (suc i) [] b h = refl
sums_other_end (suc i) (x ∷ a) [] h = refl
sums_other_end (suc i) (x ∷ a) (y ∷ b) h = ap (λ (l : List ℕ). (x + y) ∷ l) (sums_other_end i a b (omega arith))

pub sums_ends : (i : ℕ) (a b : List ℕ) → min (length a) (length b) ≤ i → sums_to i a b ≡ sums a b
sums_ends i a b h = go (leb (length a) i) refl where
  go : (t : Bool) → leb (length a) i ≡ t → sums_to i a b ≡ sums a b
  go true e = sums-end i a b (leb-true (length a) i e)
  go false e = sums_other_end i a b (let l = leb-false (length a) i e in omega arith)

-- ---- The answer

pub sum_not : (a b : List ℕ) → fits a b ≡ false → (Err (refusal 71 0) ≡ answer_of (sum_of a b)) × (a ≡ left (sum_of a b) a)
unfolding sum_of left
sum_not a b e = rw e (refl, refl)

pub sum_all : (a b : List ℕ) → fits a b ≡ true → (Ok tt ≡ answer_of (sum_of a b)) × (sums a b ≡ left (sum_of a b) a)
unfolding sum_of left
sum_all a b e = rw e (refl, refl)
