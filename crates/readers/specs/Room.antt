-- How many codes suffice: laws. Assumes nothing.
use Rattle.std.specs.Prelude.{◌≡◌, Bool, List, ℕ, zero, suc, ◌+◌, ◌*◌, ◌-◌, ◌≤◌, ◌<◌, leb, length}
use Rattle.std.proofs.Math.Path.{refl}
use Rattle.std.proofs.Math.Bool.{true, false}
use Rattle.std.proofs.Common.{arith}
use borrow.Author.Tests.{leb-true, leb-false, le-leb, lt-leb}
use Rattle.laws.specs.Small.{differ}
use Rattle.targets.specs.Code.{prelude_size}
use Rattle.reading.specs.Answer.{Answer, refused, read, bind, check}
use Rattle.reading.specs.Seven.{seven_at}
use Rattle.readers.specs.Parts.{up_to}
use Rattle.readers.specs.Left.{codes_for, room_for, enough}

-- a count that was read is within its bound
module _ (most : ℕ) (file : List ℕ) (at : ℕ) where
  tested : (n v e f : ℕ) (b : Bool) → leb v most ≡ b → check b 9 at (read v f) ≡ read n e → n ≤ most
  unfolding check
  tested n v e f true t q = let z : v ≡ n = cc in omega (arith, leb-true v most t)
  tested n v e f false t q = differ cc

  pub up_to_bound : {n e : ℕ} → up_to most file at ≡ read n e → n ≤ most
  unfolding up_to bind
  up_to_bound {n} {e} q = go (seven_at file at) q where
    go : (x : Answer ℕ) → bind x (λ n e. check (leb n most) 9 at (read n e)) ≡ read n e → n ≤ most
    go (refused k p) q = differ cc
    go (read v f) q = tested n v e f (leb v most) refl q

-- how many codes so many readers may need
pub codes_for_lem : (n : ℕ) → (n ≡ 0 → ⊥) → prelude_size + 93 * (n - 1) + 187 ≡ codes_for n
unfolding codes_for
codes_for_lem zero e = absurd (e refl)
codes_for_lem (suc n) e = omega arith

-- they are enough for each reader's name
pub codes-enough : (n i : ℕ) → i < n → prelude_size + 93 * i + 187 ≤ codes_for n
unfolding codes_for
codes-enough zero i h = absurd (omega arith)
codes-enough (suc n) i h = omega arith

-- more readers need no fewer
codes-more : (n m : ℕ) → n ≤ m → codes_for n ≤ codes_for m
unfolding codes_for
codes-more zero zero h = omega arith
codes-more zero (suc m) h = omega arith
codes-more (suc n) zero h = absurd (omega arith)
codes-more (suc n) (suc m) h = omega arith

-- by the room for the codes
module _ (file : List ℕ) (at room : ℕ) where
  pub long-enough : 16777216 < length file → enough file at room ≡ true
  unfolding enough
  long-enough h = rw (lt-leb (length file) 16777216 h)

  pub enough_for : length file ≤ 16777216 → (b : Bool) → room_for (up_to 64 file at) room ≡ b → enough file at room ≡ b
  unfolding enough
  enough_for h b r = rw (le-leb (length file) 16777216 h) r

-- the codes that so many readers need suffice, also where the reader count is refused
pub suffice : (file : List ℕ) (at most : ℕ) {n next : ℕ} → length file ≤ 16777216 → up_to 64 file at ≡ read n next → n ≤ most → enough file at (codes_for most) ≡ true
suffice file at most {n} s e h = enough_for file at (codes_for most) s true (rw e (le-leb (codes_for n) (codes_for most) (codes-more n most h)))

pub suffice-refused : (file : List ℕ) (at room : ℕ) {n p : ℕ} → length file ≤ 16777216 → up_to 64 file at ≡ refused n p → enough file at room ≡ true
suffice-refused file at room s e = enough_for file at room s true (rw e refl)

-- those of 64 suffice for every file
pub all_suffice : (file : List ℕ) (at : ℕ) → enough file at (codes_for 64) ≡ true
all_suffice file at = by_size (leb (length file) 16777216) refl where
  by_count : length file ≤ 16777216 → (x : Answer ℕ) → up_to 64 file at ≡ x → enough file at (codes_for 64) ≡ true
  by_count h (refused n p) e = suffice-refused file at (codes_for 64) h e
  by_count h (read n next) e = suffice file at 64 h e (up_to_bound 64 file at e)

  by_size : (b : Bool) → leb (length file) 16777216 ≡ b → enough file at (codes_for 64) ≡ true
  by_size true q = by_count (leb-true (length file) 16777216 q) (up_to 64 file at) refl
  by_size false q = long-enough file at (codes_for 64) (leb-false (length file) 16777216 q)
