-- The order of texts is that of lists of bytes, as the library compares them. Assumes nothing.
use Rattle.std.specs.Prelude.{◌≡◌, refl, List, [], ◌∷◌, ℕ, Bool, true, false, ltb}
use Rattle.std.proofs.Common.{arith, nat_cmp, Ordering, eq-eqb, ne_eqb, ltb-true, ltb-false}
use Rattle.std.specs.Cmp.Lexicographic.{slice_cmp}
use Rattle.std.specs.Ordering.{ordering_then}
use Rattle.text_order.specs.Ordered.{order_of, by_first}

-- by the first bytes, or by what stands behind them
first_decides : (x y : ℕ) (o : Ordering) → ordering_then (nat_cmp x y) o ≡ by_first (ltb x y) (ltb y x) o
first_decides x y o = go (ltb x y) (ltb y x) refl refl where
  go : (a b : Bool) → ltb x y ≡ a → ltb y x ≡ b → ordering_then (nat_cmp x y) o ≡ by_first (ltb x y) (ltb y x) o
  go true b p q = rw p
  go false true p q = rw (p, q, ne_eqb x y (λ e. absurd (omega (arith, ltb-true y x q))))
  go false false p q = rw (p, q, eq-eqb x y (omega (arith, ltb-false x y p, ltb-false y x q)))

-- the library's order of lists is the order of texts
pub as_slices : (s t : List ℕ) → slice_cmp nat_cmp s t ≡ order_of s t
unfolding order_of
as_slices [] [] = refl
as_slices [] (y ∷ t) = refl
as_slices (x ∷ s) [] = refl
as_slices (x ∷ s) (y ∷ t) = rw (as_slices s t) (first_decides x y (order_of s t))
