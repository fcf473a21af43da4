-- The seconds and the ticks of a split make the whole time, the ticks are below a second, and 01's example P12. Assumes nothing.
use Rattle.std.specs.Prelude.{◌≡◌, refl, ℕ, zero, suc, ◌-◌, ◌*◌, ◌/◌, ◌%◌, ◌<◌, ℤ, pos, negsuc, neg_ℤ, ◌+ℤ◌, ◌*ℤ◌}
use Rattle.std.proofs.Common.{ap, arith, lt-ltb}
use Rattle.ticks.specs.Split.{split_of}

-- seconds times 10,000,000 plus ticks is the time
pub whole : (t : ℤ) → (split_of t).seconds *ℤ pos 10000000 +ℤ pos (split_of t).ticks ≡ t
unfolding split_of
whole (pos n) = ap pos (omega arith)
whole (negsuc n) = go (suc (n / 10000000) * 10000000) (9999999 - n % 10000000) refl refl
  where
    go : (p b : ℕ) → p ≡ suc (n / 10000000) * 10000000 → b ≡ 9999999 - n % 10000000 → neg_ℤ (pos p) +ℤ pos b ≡ negsuc n
    go zero b e f = absurd (omega arith)
    go (suc m) b e f = rw (lt-ltb b (suc m) (omega arith)) (ap negsuc (omega arith))

-- 01: "0 to 9,999,999 ticks"
pub below-second : (t : ℤ) → (split_of t).ticks < 10000000
unfolding split_of
below-second (pos n) = omega arith
below-second (negsuc n) = omega arith

-- 01, P12: "ticks -1 are -1 s and 9,999,999; -9223372036854775808 are -922337203686 s and 5,224,192"
pub p12 : (split_of (negsuc 0) ≡ record { seconds = negsuc 0; ticks = 9999999 })
    × (split_of (negsuc 9223372036854775807) ≡ record { seconds = negsuc 922337203685; ticks = 5224192 })
unfolding split_of
p12 = (refl, refl)
