-- The order of texts, byte by byte, and its laws. Assumes nothing.
use Rattle.std.specs.Prelude.{◌≡◌, refl, Bool, true, false, List, [], ◌∷◌, ◌⊎◌, ℕ, ◌<◌, ltb}
use Rattle.std.proofs.Common.{sym, ◌∙◌, inl, inr, arith, ltb-true, ltb-false, lt-ltb, le-ltb}
use Rattle.laws.specs.Small.{differ}
use Rattle.std.proofs.Common as std
use Rattle.std.proofs.Common.{Ordering, Equal, Greater}

-- by the first bytes, or by what stands behind them
abbrev pub by_first : (less more : Bool) → Ordering → Ordering
by_first true more rest = std.Less
by_first false true rest = Greater
by_first false false rest = rest

unfoldable pub order_of : List ℕ → List ℕ → Ordering
order_of [] [] = Equal
order_of [] (y ∷ t) = std.Less
order_of (x ∷ s) [] = Greater
order_of (x ∷ s) (y ∷ t) = by_first (ltb x y) (ltb y x) (order_of s t)

abbrev pub Less : List ℕ → List ℕ → Type 0
Less s t = order_of s t ≡ std.Less

less_cases : (x y : ℕ) (o : Ordering) → by_first (ltb x y) (ltb y x) o ≡ std.Less → (x < y) ⊎ ((x ≡ y) × (o ≡ std.Less))
less_cases x y o e = go (ltb x y) (ltb y x) refl refl e where
  go : (a b : Bool) → ltb x y ≡ a → ltb y x ≡ b → by_first a b o ≡ std.Less → (x < y) ⊎ ((x ≡ y) × (o ≡ std.Less))
  go true b p q e = inl (ltb-true x y p)
  go false true p q e = differ cc
  go false false p q e = inr (omega (arith, ltb-false x y p, ltb-false y x q), e)

less_first : (x y : ℕ) (o : Ordering) → x < y → by_first (ltb x y) (ltb y x) o ≡ std.Less
less_first x y o h = rw (lt-ltb x y h)

pub equal_first : (x : ℕ) (o : Ordering) → by_first (ltb x x) (ltb x x) o ≡ o
equal_first x o = rw (le-ltb x x (omega arith))

pub irreflexive : (t : List ℕ) → Less t t → ⊥
unfolding order_of
irreflexive [] e = let z : ◌≡◌ {A = ℕ} 0 1 = cc in omega arith
irreflexive (x ∷ t) e = irreflexive t (sym (equal_first x (order_of t t)) ∙ e)

pub trans : (s t u : List ℕ) → Less s t → Less t u → Less s u
unfolding order_of
trans [] [] u p q = q
trans [] (y ∷ t) [] p q = differ cc
trans [] (y ∷ t) (z ∷ u) p q = refl
trans (x ∷ s) [] u p q = differ cc
trans (x ∷ s) (y ∷ t) [] p q = differ cc
trans (x ∷ s) (y ∷ t) (z ∷ u) p q = go (less_cases x y (order_of s t) p) (less_cases y z (order_of t u) q) (λ a b. trans s t u a b) where
  go : (x < y) ⊎ ((x ≡ y) × Less s t) → (y < z) ⊎ ((y ≡ z) × Less t u) → (Less s t → Less t u → Less s u) → by_first (ltb x z) (ltb z x) (order_of s u) ≡ std.Less
  go (inl a) (inl b) f = less_first x z (order_of s u) (omega arith)
  go (inl a) (inr b) f = let e = b.0 in less_first x z (order_of s u) (omega arith)
  go (inr a) (inl b) f = let e = a.0 in less_first x z (order_of s u) (omega arith)
  go (inr a) (inr b) f = let e : x ≡ z = a.0 ∙ b.0 in rw e (equal_first z (order_of s u) ∙ f a.1 b.1)

pub same_means : (s t : List ℕ) → order_of s t ≡ Equal → s ≡ t
unfolding order_of
same_means [] [] e = refl
same_means [] (y ∷ t) e = differ cc
same_means (x ∷ s) [] e = differ cc
same_means (x ∷ s) (y ∷ t) e = go (ltb x y) (ltb y x) refl refl e (λ f. same_means s t f) where
  go : (a b : Bool) → ltb x y ≡ a → ltb y x ≡ b → by_first a b (order_of s t) ≡ Equal → (order_of s t ≡ Equal → s ≡ t) → x ∷ s ≡ y ∷ t
  go true b p q e f = differ cc
  go false true p q e f = differ cc
  go false false p q e f = let z : x ≡ y = omega (arith, ltb-false x y p, ltb-false y x q) in rw (z, f e)
