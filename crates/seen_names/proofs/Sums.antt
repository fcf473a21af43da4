-- The sum over what is left of a name. Assumes nothing.
use Rattle.std.proofs.Common.{◌≡◌, refl, ap, arith, List, [], ◌∷◌, ℕ, ◌+◌, ◌*◌, ◌≤◌, length, take, drop}
use Rattle.std.specs.Int.{from_le_bytes, w32}
use Rattle.seen_names.specs.Sum.{step_of, sum_from}

-- with fewer than four bytes each is taken by itself
pub sum-each : (h a : ℕ) (r : List ℕ) → length r ≤ 2 → sum_from h (a ∷ r) ≡ sum_from (step_of h a) r
unfolding sum_from
sum-each h a [] l = refl
sum-each h a (b ∷ []) l = refl
sum-each h a (b ∷ (c ∷ [])) l = refl
sum-each h a (b ∷ (c ∷ (d ∷ r))) l = absurd (omega arith)

-- four bytes as one number
pub sum-four : (h : ℕ) (s : List ℕ) → 4 ≤ length s → sum_from h s ≡ sum_from (step_of h (from_le_bytes w32 (take 4 s))) (drop 4 s)
unfolding sum_from
sum-four h [] l = absurd (omega arith)
sum-four h (a ∷ []) l = absurd (omega arith)
sum-four h (a ∷ (b ∷ [])) l = absurd (omega arith)
sum-four h (a ∷ (b ∷ (c ∷ []))) l = absurd (omega arith)
sum-four h (a ∷ (b ∷ (c ∷ (d ∷ s)))) l =
    let z : a + b * 256 + c * 65536 + d * 16777216 ≡ from_le_bytes w32 (a ∷ (b ∷ (c ∷ (d ∷ [])))) = omega arith in
    ap (λ (n : ℕ). sum_from (step_of h n) s) z

pub sum-none : (h : ℕ) → sum_from h [] ≡ h
unfolding sum_from
sum-none h = refl
