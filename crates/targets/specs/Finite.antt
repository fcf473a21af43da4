-- Tests of every number below a bound, by computation. Assumes nothing.
use Rattle.std.specs.Prelude.{◌≡◌, refl, Bool, true, false, not, ◌&&◌, ℕ, zero, suc, ◌<◌, eqb}
use Rattle.std.proofs.Common.{sym, ap, ◌∙◌, arith, eqb-true}
use Rattle.std.proofs.lemmas.Bool.{eqb-false}
use Rattle.laws.specs.Small.{both}

-- a test of every number below n
unfoldable pub all_below : (ℕ → Bool) → ℕ → Bool
all_below f zero = true
all_below f (suc n) = f n && all_below f n

below_as : (f : ℕ → Bool) (n k : ℕ) (x : Bool) → eqb k n ≡ x → f n ≡ true → (k < n → f k ≡ true) → k < suc n → f k ≡ true
below_as f n k true e p g h = ap f (eqb-true k n e) ∙ p
below_as f n k false e p g h = g (let q = eqb-false k n e in omega arith)

pub below_is : (f : ℕ → Bool) (n k : ℕ) → all_below f n ≡ true → k < n → f k ≡ true
unfolding all_below
below_is f zero k e h = absurd (omega arith)
below_is f (suc n) k e h =
    let q = both (f n) (all_below f n) e in
    below_as f n k (eqb k n) refl q.0 (below_is f n k q.1) h

-- two tests agree
unfoldable pub agrees : Bool → Bool → Bool
agrees true b = b
agrees false b = not b

pub agree : (a b : Bool) → agrees a b ≡ true → b ≡ a
unfolding agrees
agree true b e = e
agree false true e = sym e
agree false false e = refl
