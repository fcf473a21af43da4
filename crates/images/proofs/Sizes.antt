-- Bounds of the tables, formats with no blocks, and binary digits by leading zeros. Assumes nothing.
use mathlib.Core.Path.{◌≡◌, refl}
use mathlib.Core.List.{List, [], ◌∷◌}
use Prim.Native.Nat.{ℕ, zero, suc, ◌+◌, ◌/◌, ◌≤◌, max}
use native.Mathlib.Omega.{arith}
use lib.ListN.{get_or}
use lib.Count.{count_leading_zeros}
use Rattle.layout.specs.Image.{pixel_bytes, block_bytes, digits}

abbrev largest : List ℕ → ℕ
largest [] = 0
largest (x ∷ xs) = max x (largest xs)

entry_bound : (l : List ℕ) (k : ℕ) → get_or l k 0 ≤ largest l
entry_bound [] k = omega arith
entry_bound (x ∷ l) zero = omega arith
entry_bound (x ∷ l) (suc k) = omega (arith, entry_bound l k)

pub pixel_bound : (f : ℕ) → get_or pixel_bytes f 0 ≤ 16
unfolding pixel_bytes
pixel_bound = entry_bound pixel_bytes

pub block_bound : (f : ℕ) → get_or block_bytes f 0 ≤ 16
unfolding block_bytes
block_bound = entry_bound block_bytes

pub no_block : (f : ℕ) → (f ≡ 4 → ⊥) → (f ≡ 5 → ⊥) → (f ≡ 6 → ⊥) → 0 ≡ get_or block_bytes f 0
unfolding block_bytes
no_block zero p q r = refl
no_block (suc zero) p q r = refl
no_block (suc (suc zero)) p q r = refl
no_block (suc (suc (suc zero))) p q r = refl
no_block (suc (suc (suc (suc zero)))) p q r = absurd (p refl)
no_block (suc (suc (suc (suc (suc zero))))) p q r = absurd (q refl)
no_block (suc (suc (suc (suc (suc (suc zero)))))) p q r = absurd (r refl)
no_block (suc (suc (suc (suc (suc (suc (suc f))))))) p q r = refl

pub leading_digits : (k x : ℕ) → count_leading_zeros k x + digits k x ≡ k
unfolding count_leading_zeros digits
leading_digits zero x = refl
leading_digits (suc k) zero = omega arith
leading_digits (suc k) (suc x) = omega (arith, leading_digits k (suc x / 2))
