-- What each part of the code shows of the reading. Assumes nothing.
use mathlib.Core.Path.{◌≡◌, ap}
use mathlib.Core.List.{List}
use Prim.Native.Nat.{ℕ, ◌+◌, ◌-◌, ◌<◌, ◌≤◌}
use native.Mathlib.Omega.{arith}
use lib.ListN.{take, drop}
use borrow.Author.Tests.{le-leb, lt-leb, eq-eqb, ne_eqb}
use Rattle.reading.specs.Answer.{refused, read, bind, check}
use Rattle.reading.specs.Seven.{seven_at}
use Rattle.reading.specs.Little.{little_at}
use Rattle.readers.specs.Parts.{up_to, version_at}

module _ (most : ℕ) (file : List ℕ) (at : ℕ) where
  pub up_to-refused : {n p : ℕ} → seven_at file at ≡ refused n p → refused n p ≡ up_to most file at
  unfolding up_to bind
  up_to-refused q = rw q

  pub up_to-read : {n e : ℕ} → seven_at file at ≡ read n e → n ≤ most → read n e ≡ up_to most file at
  unfolding up_to bind check
  up_to-read {n} q h = rw (q, le-leb n most h)

  pub up_to-more : {n e : ℕ} → seven_at file at ≡ read n e → most < n → refused 9 at ≡ up_to most file at
  unfolding up_to bind check
  up_to-more {n} q h = rw (q, lt-leb n most h)

module _ (file : List ℕ) (at : ℕ) where
  pub version_refused : {n p : ℕ} → little_at file 4 at at ≡ refused n p → refused n p ≡ version_at file at
  unfolding version_at bind
  version_refused q = rw q

  pub version_read : {v e : ℕ} → little_at file 4 at at ≡ read v e → v ≡ 0 → read v e ≡ version_at file at
  unfolding version_at bind check
  version_read {v} q h = rw (q, eq-eqb v 0 h)

  pub version_other : {v e : ℕ} → little_at file 4 at at ≡ read v e → (v ≡ 0 → ⊥) → refused 12 at ≡ version_at file at
  unfolding version_at bind check
  version_other {v} q h = rw (q, ne_eqb v 0 h)

-- the part of the file that is resolved is the name
pub name-part : (file : List ℕ) (first n : ℕ) → take (first + n - first) (drop first file) ≡ take n (drop first file)
name-part file first n = ap (λ (k : ℕ). take k (drop first file)) (let e : first + n - first ≡ n = omega arith in e)
