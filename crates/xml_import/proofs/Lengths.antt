-- How many bytes the shortest form of a text's length has. Assumes nothing.
use mathlib.Core.Path.{◌≡◌, refl, sym, ap}
use mathlib.Core.Bool.{Bool, true, false, cond}
use mathlib.Core.List.{[], ◌∷◌}
use mathlib.Core.Logic.{◌⊎◌, inl, inr}
use Prim.Native.Nat.{ℕ, ◌+◌, ◌/◌, ◌%◌, ◌^◌, ◌≤◌, ◌<◌}
use native.Mathlib.Omega.{arith}
use native.Mathlib.Decide.{dec_lt}
use lib.Dec.{ltb}
use lib.ListN.{length}
use borrow.Author.Tests.{lt-ltb, le-ltb}
use Rattle.layout.specs.Shortest.{shortest, fewest}

-- a group more, or not
last_group : (t : Bool) (a b : ℕ) → length (cond t (a ∷ []) (b ∷ [])) ≡ 1
last_group true a b = refl
last_group false a b = refl

module _ (n : ℕ) where
  pub short_one : n < 128 → shortest n ≡ n ∷ []
  unfolding shortest fewest
  short_one h = simp (lt-ltb n 128 h)

  pub one : n < 128 → 1 ≡ length (shortest n)
  one h = sym (ap length (short_one h))

  pub two : 128 ≤ n → n < 16384 → 2 ≡ length (shortest n)
  unfolding shortest fewest
  two g h = simp (le-ltb n 128 (omega arith), lt-ltb (n / 128) 128 (omega arith))

  pub three : 16384 ≤ n → n < 2097152 → 3 ≡ length (shortest n)
  unfolding shortest fewest
  three g h = simp (le-ltb n 128 (omega arith), le-ltb (n / 128) 128 (omega arith), lt-ltb (n / 128 / 128) 128 (omega arith))

  pub four : 2097152 ≤ n → n < 268435456 → 4 ≡ length (shortest n)
  unfolding shortest fewest
  four g h = simp (le-ltb n 128 (omega arith), le-ltb (n / 128) 128 (omega arith), le-ltb (n / 128 / 128) 128 (omega arith), lt-ltb (n / 128 / 128 / 128) 128 (omega arith))

  pub five : 268435456 ≤ n → 5 ≡ length (shortest n)
  unfolding shortest fewest
  five g =
      simp (
        le-ltb n 128 (omega arith),
        le-ltb (n / 128) 128 (omega arith),
        le-ltb (n / 128 / 128) 128 (omega arith),
        le-ltb (n / 128 / 128 / 128) 128 (omega arith),
        last_group (ltb (n / 128 / 128 / 128 / 128) 128) (n / 128 / 128 / 128 / 128) (n / 128 / 128 / 128 / 128 % 128 + 128),
      )

  -- which of them it is
  pub record Group (k low high : ℕ) : Type 0 where
    pub long : k ≡ length (shortest n)
    pub from : low ≤ n
    pub below : n < high

  abbrev pub Groups : Type 0
  Groups = Group 1 0 128 ⊎ (Group 2 128 16384 ⊎ (Group 3 16384 2097152 ⊎ Group 4 2097152 268435456))

  pub groups : n < 2 ^ 28 → Groups
  groups h = go (dec_lt n 128) (dec_lt n 16384) (dec_lt n 2097152) where
    go : Dec (n < 128) → Dec (n < 16384) → Dec (n < 2097152) → Groups
    go (yes a) b c = inl (record { long = one a; from = omega arith; below = a })
    go (no a) (yes b) c = inr (inl (record { long = two (omega arith) b; from = omega arith; below = b }))
    go (no a) (no b) (yes c) = inr (inr (inl (record { long = three (omega arith) c; from = omega arith; below = c })))
    go (no a) (no b) (no c) = inr (inr (inr (record { long = four (omega arith) (omega arith); from = omega arith; below = omega arith })))

  pub some : n < 2 ^ 28 → 1 ≤ length (shortest n)
  some h = go (groups h) where
    go : Groups → 1 ≤ length (shortest n)
    go (inl g) = omega (arith, g.long)
    go (inr (inl g)) = omega (arith, g.long)
    go (inr (inr (inl g))) = omega (arith, g.long)
    go (inr (inr (inr g))) = omega (arith, g.long)
