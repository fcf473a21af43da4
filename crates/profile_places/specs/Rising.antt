-- Places that rise: the first of them is the lowest. Assumes nothing.
use Rattle.std.specs.Prelude.{◌≡◌, refl, Bool, true, false, List, [], ◌∷◌, ◌++◌, ◌⊎◌, ℕ, ◌≤◌}
use Rattle.std.proofs.Common.{inl, inr, arith}
use Rattle.profile.specs.Offences.{wrong_at}
use Rattle.fault_places.specs.Places.{first_place, Lowest, Among}

-- from a place on
unfoldable pub Rise : (from : ℕ) → List ℕ → Type 0
Rise from [] = Unit {0}
Rise from (p ∷ l) = (from ≤ p) × Rise p l

pub rise_from : (a b : ℕ) (l : List ℕ) → a ≤ b → Rise b l → Rise a l
unfolding Rise
rise_from a b [] h r = tt
rise_from a b (p ∷ l) h r = ((let x = r.0 in omega arith), r.1)

pub rise_among : (a : ℕ) (l : List ℕ) (q : ℕ) → Rise a l → Among q l → a ≤ q
unfolding Rise Among
rise_among a [] q r m = absurd m
rise_among a (p ∷ l) q r (inl e) = let x = r.0 in omega arith
rise_among a (p ∷ l) q r (inr m) = let x = r.0 in let y = rise_among p l q r.1 m in omega arith

-- none is below the first
unfoldable pub Least : List ℕ → Type 0
Least [] = Unit {0}
Least (p ∷ l) = (q : ℕ) → Among q l → p ≤ q

pub rise_least : (a : ℕ) (l : List ℕ) → Rise a l → Least l
unfolding Rise Least
rise_least a [] r = tt
rise_least a (p ∷ l) r = λ q m. rise_among p l q r.1 m

-- of what is said of places, the lowest is the first of a list that has just those, if none is below it
pub first_lowest : (H : ℕ → Type 0) (l : List ℕ) → Least l → ((p : ℕ) → Among p l → H p) → ((p : ℕ) → H p → Among p l) → Lowest H (first_place l)
unfolding Least Lowest Among
first_lowest H [] r f g = λ p h. g p h
first_lowest H (p ∷ l) r f g = (f p (inl refl), λ q h. go q (g q h)) where
  go : (q : ℕ) → (p ≡ q) ⊎ Among q l → p ≤ q
  go q (inl e) = omega arith
  go q (inr m) = r q m

-- ---- The place of what a test finds wrong, before those of a list

pub rise_wrong : (b : Bool) (a x : ℕ) (l : List ℕ) → a ≤ x → Rise x l → Rise a (wrong_at b x ++ l)
unfolding wrong_at Rise
rise_wrong true a x l h r = (h, r)
rise_wrong false a x l h r = rise_from a x l h r

pub least-wrong : (b : Bool) (x : ℕ) (l : List ℕ) → (b ≡ true → (q : ℕ) → Among q l → x ≤ q) → Least l → Least (wrong_at b x ++ l)
unfolding wrong_at Least
least-wrong true x l f r = f refl
least-wrong false x l f r = r
