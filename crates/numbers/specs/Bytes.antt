-- Some bytes of a slice as a number. Assumes nothing.
use Rattle.std.specs.Prelude.{◌≡◌, true, false, List, ℕ, ◌+◌, ◌*◌, ◌<◌, ◌≤◌, ◌^◌, length, get_or, take, drop, leb}
use Rattle.std.proofs.Common.{sym, arith, mul-suc, mul-le-mul_left, pow-add, length-drop, take-add, drop-drop, drop-cons, length-take-le, leb-true, leb-false}
use Rattle.layout.specs.Number.{value_of}
use Rattle.reading.specs.Answer.{read, refused}
use Rattle.reading.specs.Little.{value-append, little_at, little_there, little-missing}

-- k bytes from i on, low first, and that they are bytes
pub record Little (s : List ℕ) (i k r : ℕ) : Type 0 where
  pub value : r ≡ value_of (take k (drop i s))
  pub below : r < 256 ^ k

pub one_byte : (s : List ℕ) (i : ℕ) → i < length s → get_or s i 0 ≡ value_of (take 1 (drop i s))
unfolding value_of
one_byte s i h = rw (drop-cons s i 0 h) (omega arith)

-- j bytes and k after them make j + k bytes
pub more_bytes : (s : List ℕ) (i j k : ℕ) → i + j ≤ length s
    → value_of (take (j + k) (drop i s)) ≡ value_of (take j (drop i s)) + 256 ^ j * value_of (take k (drop (i + j) s))
more_bytes s i j k h =
    let l : length (take j (drop i s)) ≡ j = length-take-le j (drop i s) (rw length-drop (omega arith)) in
    rw (take-add j k (drop i s), value-append, l, drop-drop j i s)

pub joined : {s : List ℕ} {i : ℕ} (j k : ℕ) {a b : ℕ} → i + j ≤ length s → Little s i j a → Little s (i + j) k b → Little s i (j + k) (a + 256 ^ j * b)
joined {s} {i} j k {a} {b} h x y = record {
  value = rw (more_bytes s i j k h, x.value, y.value);
  below = rw pow-add (omega (arith, x.below, mul-le-mul_left (256 ^ j) y.below, mul-suc (256 ^ j) b));
}

-- the first bytes from i on, as sums
module _ (s : List ℕ) (small : (j : ℕ) → get_or s j 0 < 256) (i : ℕ) where
  pub byte_here : i + 1 ≤ length s → Little s i 1 (get_or s i 0)
  byte_here h = record { value = one_byte s i (omega arith); below = small i }

module _ (s : List ℕ) (small : (j : ℕ) → get_or s j 0 < 256) (i : ℕ) where
  pub two_here : i + 2 ≤ length s → Little s i 2 (get_or s i 0 + 256 * get_or s (i + 1) 0)
  two_here h = joined 1 1 (omega arith) (byte_here s small i (omega arith)) (byte_here s small (i + 1) (omega arith))

module _ (s : List ℕ) (small : (j : ℕ) → get_or s j 0 < 256) (i : ℕ) where
  pub four_here : i + 4 ≤ length s
      → Little s i 4 (get_or s i 0 + 256 * get_or s (i + 1) 0 + 65536 * (get_or s (i + 2) 0 + 256 * get_or s (i + 3) 0))
  four_here h =
      let z : i + 2 + 1 ≡ i + 3 = omega arith in
      rw z at (joined 2 2 (omega arith) (two_here s small i (omega arith)) (two_here s small (i + 2) (omega arith)))

module _ (s : List ℕ) (small : (j : ℕ) → get_or s j 0 < 256) (i : ℕ) where
  pub eight_here : i + 8 ≤ length s
      → Little s i 8 (get_or s i 0 + 256 * get_or s (i + 1) 0 + 65536 * (get_or s (i + 2) 0 + 256 * get_or s (i + 3) 0)
      + 4294967296 * (get_or s (i + 4) 0 + 256 * get_or s (i + 5) 0 + 65536 * (get_or s (i + 6) 0 + 256 * get_or s (i + 7) 0)))
  eight_here h =
      let a : i + 4 + 1 ≡ i + 5 = omega arith in
      let b : i + 4 + 2 ≡ i + 6 = omega arith in
      let d : i + 4 + 3 ≡ i + 7 = omega arith in
      rw (a, b, d) at (joined 4 4 (omega arith) (four_here s small i (omega arith)) (four_here s small (i + 4) (omega arith)))

-- what a test of `has_bytes` says of a number of at least one byte
pub inside : (s : List ℕ) (k at : ℕ) → 1 ≤ k → leb k (length (drop at s)) ≡ true → at + k ≤ length s
inside s k at some t = omega (arith, leb-true k (length (drop at s)) t, length-drop at s)

pub is_there : (s : List ℕ) (k at : ℕ) {r : ℕ} → leb k (length (drop at s)) ≡ true → Little s at k r → read r (at + k) ≡ little_at s k at at
is_there s k at t x = rw x.value (sym (little_there s k at at (leb-true k (length (drop at s)) t)))

pub is_missing : (s : List ℕ) (k at : ℕ) → leb k (length (drop at s)) ≡ false → refused 1 at ≡ little_at s k at at
is_missing s k at t = sym (little-missing s k at at (leb-false k (length (drop at s)) t))
