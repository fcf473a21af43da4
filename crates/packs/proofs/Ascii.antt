-- Bytes below 80 hex are text. Assumes nothing.
use mathlib.Core.Path.{◌≡◌, refl, ◌∙◌}
use mathlib.Core.Bool.{true}
use mathlib.Core.List.{List, ◌∷◌}
use Prim.Native.Nat.{ℕ, zero, suc, ◌+◌, ◌-◌, ◌<◌, ◌≤◌}
use native.Mathlib.Omega.{arith}
use native.Mathlib.Decide.{dec_lt}
use lib.ListN.{length, get_or, take, drop}
use lib.Seq.{drop-cons}
use Rattle.reading.specs.Utf8.{size_one, follow, sized, chars, utf8s, utf8s_steps}
use Rattle.text.specs.Passed.{Ascii}

-- two blocks of 16 bytes, at the start and at the end of n, cover all n
pub covered : (s : List ℕ) (i k n : ℕ) → n ≤ 32 → k + 16 ≡ i + n → Ascii s i 16 × Ascii s k 16 → Ascii s i n
covered s i k n h e p j l = go (dec_lt j 16) where
  go : Dec (j < 16) → get_or s (i + j) 0 < 0x80
  go (yes m) = p.0 j m
  go (no m) = let z : i + j ≡ k + (i + j - k) = omega arith in rw z (p.1 (i + j - k) (omega arith))

pub ascii-text : (s : List ℕ) (n i : ℕ) → i + n ≤ length s → Ascii s i n → utf8s (take n (drop i s)) ≡ true
unfolding utf8s chars follow
ascii-text s zero i h a = refl
ascii-text s (suc n) i h a =
    let y : i + 0 ≡ i = omega arith in
    let first : get_or s i 0 < 0x80 = rw y at (a 0 (omega arith)) in
    let rest = take n (drop (suc i) s) in
    rw (drop-cons s i 0 (omega arith)) (utf8s_steps 0 (get_or s i 0 ∷ rest) (sized (get_or s i 0) 0 rest (size_one (get_or s i 0) first))
    ∙ ascii-text s n (suc i) (omega arith) (λ k l. let x : suc i + k ≡ i + suc k = omega arith in rw x (a (suc k) (omega arith))))
