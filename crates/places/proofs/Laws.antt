-- Which values start with an id. Assumes nothing.
use mathlib.Core.Path.{◌≡◌, refl}
use mathlib.Core.Bool.{true}
use Prim.Native.Nat.{ℕ, zero, suc}
use lib.Dec.{eqb}
use borrow.Author.Tests.{ne_eqb}
use Rattle.layout.specs.Shortest.{numbered}

pub has_detail : (kind detail : ℕ) → (detail ≡ 0 → ⊥) → true ≡ numbered kind detail
unfolding numbered
has_detail kind zero h = absurd (h refl)
has_detail kind (suc i) h = refl

pub kind_null : (kind detail : ℕ) → detail ≡ 0 → kind ≡ 0 → true ≡ numbered kind detail
unfolding numbered
kind_null kind detail h k = rw (h, k)

pub kind_reference : (kind detail : ℕ) → detail ≡ 0 → (kind ≡ 0 → ⊥) → eqb kind 36 ≡ numbered kind detail
unfolding numbered
kind_reference kind detail h k = rw (h, ne_eqb kind 0 k)
