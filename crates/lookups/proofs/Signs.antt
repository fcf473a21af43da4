-- What the tests of a signed lookup say. Assumes nothing.
use mathlib.Core.Path.{◌≡◌, refl, sym, ap, ◌∙◌}
use mathlib.Core.Bool.{Bool, true, false, cond}
use mathlib.Core.List.{List}
use Rattle.std.proofs.Common.{◌⊎◌, inl, inr}
use Prim.Native.Nat.{ℕ, zero, suc, ◌-◌, ◌^◌, ◌/◌, ◌≤◌, ◌<◌}
use native.Mathlib.Omega.{arith}
use lib.Dec.{leb}
use lib.IntN.{ℤ, pos, negsuc, ◌-ℤ◌}
use mir.Val.{SFits, to_z, of_z}
use mir.Syntax.{w64}
use mir.Facts.{to_z-of_z, to_z_pos}
use lib.ListN.{length}
use borrow.Author.Tests.{le-leb, lt-leb, leb-true, leb-false, eq-eqb, ne_eqb}
use Rattle.reading.specs.Answer.{Answer, refused, read}
use Rattle.reading.specs.Reads.{Small}
use Rattle.reading.specs.Little.{little_at, little_next}
use Rattle.std.specs.Prelude.{Ok, Err}
use Rattle.answers.specs.Refusals.{refusal}
use Rattle.lookups.specs.Signs.{twos, Within, signed_from, last_bytes, signed_in}

pub low : (top value : ℕ) → value ≤ top / 2 → twos top value ≡ pos value
unfolding twos
low top value h = rw (le-leb value (top / 2) h)

pub high : (top value : ℕ) → top / 2 < value → twos top value ≡ negsuc (top - value)
unfolding twos
high top value h = rw (lt-leb value (top / 2) h)

minus : (n : ℕ) → negsuc 0 -ℤ pos n ≡ negsuc n
minus zero = refl
minus (suc n) = ap negsuc (omega arith)

-- the code's subtraction from -1
pub back_is : (n : ℕ) → n < 9223372036854775808 → negsuc 0 -ℤ to_z w64 n ≡ negsuc n
back_is n h = ap (λ (z : ℤ). negsuc 0 -ℤ z) (to_z_pos w64 h) ∙ minus n

negsuc_fits : (n : ℕ) → n < 9223372036854775808 → SFits w64 (negsuc n)
negsuc_fits n h = record { sfits = omega arith }

pub back_fits : (n : ℕ) → n < 9223372036854775808 → SFits w64 (negsuc 0 -ℤ to_z w64 n)
back_fits n h = rw (back_is n h) (negsuc_fits n h)

pub low_is : (top value : ℕ) → top < 18446744073709551616 → value ≤ top / 2 → to_z w64 value ≡ twos top value
low_is top value t h = to_z_pos w64 (omega arith) ∙ sym (low top value h)

pub high_is : (top value : ℕ) → top < 18446744073709551616 → top / 2 < value → to_z w64 (of_z w64 (negsuc 0 -ℤ to_z w64 (top - value))) ≡ twos top value
high_is top value t h =
    let b : top - value < 9223372036854775808 = omega arith in
    to_z-of_z {w = w64} (back_fits (top - value) b) ∙ back_is (top - value) b ∙ sym (high top value h)

twos-fits : (top value : ℕ) → top < 18446744073709551616 → SFits w64 (twos top value)
unfolding twos
twos-fits top value t = go (leb value (top / 2)) refl where
  go : (b : Bool) → leb value (top / 2) ≡ b → SFits w64 (cond b (pos value) (negsuc (top - value)))
  go true e = let h = leb-true value (top / 2) e in record { sfits = omega arith }
  go false e = let h = leb-false value (top / 2) e in record { sfits = omega arith }

-- the number that a call gave
pub from_number : {z : ℤ} {x : Answer ℕ} (top row value next : ℕ) → top < 18446744073709551616 → z ≡ twos top value → x ≡ read value next
    → Ok (to_z w64 (of_z w64 z)) ≡ signed_from top row x
unfolding signed_from
from_number top row value next t e q =
    rw (q, e) (ap Ok (to_z-of_z {w = w64} (twos-fits top value t)))

-- a number of so many bytes is at most the largest of them
within_of : (bytes : List ℕ) → Small bytes → (k at : ℕ) → 1 ≤ k → (x : Answer ℕ) → little_at bytes k at at ≡ x → Within (256 ^ k - 1) x
within_of bytes s k at h (refused n p) e = tt
within_of bytes s k at h (read v next) e = omega (arith, (little_next bytes s k at at h e).2)

pub little-within : (bytes : List ℕ) → Small bytes → (k at : ℕ) {x : Answer ℕ} → 1 ≤ k → x ≡ little_at bytes k at at → Within (256 ^ k - 1) x
little-within bytes s k at {x} h e = within_of bytes s k at h x (sym e)

pub last_of : (bytes : List ℕ) (k row : ℕ) {at : ℕ} {x : Answer ℕ} → at ≡ length bytes - k → x ≡ little_at bytes k at at → signed_from (256 ^ k - 1) row x ≡ last_bytes bytes k row
unfolding last_bytes
last_of bytes k row a e = rw (e, a)

module _ (bytes : List ℕ) (kind row : ℕ) where
  pub kind2 : kind ≡ 2 → last_bytes bytes 1 row ≡ signed_in bytes kind row
  unfolding signed_in
  kind2 e = rw (eq-eqb kind 2 e)

  pub kind3 : kind ≡ 3 → last_bytes bytes 2 row ≡ signed_in bytes kind row
  unfolding signed_in
  kind3 e = rw e

  pub kind5 : kind ≡ 5 → last_bytes bytes 4 row ≡ signed_in bytes kind row
  unfolding signed_in
  kind5 e = rw e

  pub kind8 : (kind ≡ 7) ⊎ (kind ≡ 20) → last_bytes bytes 8 row ≡ signed_in bytes kind row
  unfolding signed_in
  kind8 (inl e) = rw e
  kind8 (inr e) = rw e

  pub no_kind : (kind ≡ 2 → ⊥) → (kind ≡ 3 → ⊥) → (kind ≡ 5 → ⊥) → (kind ≡ 7 → ⊥) → (kind ≡ 20 → ⊥) → Err (refusal 24 row) ≡ signed_in bytes kind row
  unfolding signed_in
  no_kind a b d e f = rw (ne_eqb kind 2 a, ne_eqb kind 3 b, ne_eqb kind 5 d, ne_eqb kind 7 e, ne_eqb kind 20 f)
