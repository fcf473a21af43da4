-- How much of a text stands first, and whether all of it does. Assumes nothing.
use Rattle.std.specs.Prelude.{◌≡◌, refl, Bool, true, false, ◌&&◌, cond, List, [], ◌∷◌, ◌++◌, ℕ, suc, ◌≤◌, ◌<◌, eqb, length, take}
use Rattle.std.proofs.Common.{sym, ap, ◌∙◌, arith, eq-eqb, ne_eqb, eqb-true}
use Rattle.std.proofs.lemmas.Bool.{eqb-false}
use Rattle.laws.specs.Small.{differ}
use Rattle.names.specs.Parse.{starts, common}

-- one byte more, and none
pub common_yes : (a b : ℕ) (t s : List ℕ) → a ≡ b → common (a ∷ t) (b ∷ s) ≡ suc (common t s)
unfolding common
common_yes a b t s e = rw (eq-eqb a b e)

pub common-none : (t : List ℕ) → common t [] ≡ 0
unfolding common
common-none [] = refl
common-none (a ∷ t) = refl

le_by : (x : Bool) (m n : ℕ) → m ≤ n → cond x (suc m) 0 ≤ suc n
le_by true m n h = omega arith
le_by false m n h = omega arith

pub common_le : (t s : List ℕ) → common t s ≤ length t
unfolding common
common_le [] s = omega arith
common_le (a ∷ t) [] = omega arith
common_le (a ∷ t) (b ∷ s) = le_by (eqb a b) (common t s) (length t) (common_le t s)

-- one more on both sides
eqb-suc : (m n : ℕ) → eqb m n ≡ eqb (suc m) (suc n)
eqb-suc m n = go (eqb m n) refl where
  go : (x : Bool) → eqb m n ≡ x → x ≡ eqb (suc m) (suc n)
  go true e = sym (eq-eqb (suc m) (suc n) (ap suc (eqb-true m n e)))
  go false e = sym (ne_eqb (suc m) (suc n) (λ q. eqb-false m n e (omega arith)))

both_by : (x y : Bool) (m n : ℕ) → y ≡ eqb m n → (x && y) ≡ eqb (cond x (suc m) 0) (suc n)
both_by true y m n e = e ∙ eqb-suc m n
both_by false y m n e = sym (ne_eqb 0 (suc n) (λ q. omega arith))

-- a text stands first exactly if all its bytes do
pub starts-common : (t s : List ℕ) → starts t s ≡ eqb (common t s) (length t)
unfolding starts common
starts-common [] s = refl
starts-common (a ∷ t) [] = sym (ne_eqb 0 (suc (length t)) (λ q. omega arith))
starts-common (a ∷ t) (b ∷ s) = both_by (eqb a b) (starts t s) (common t s) (length t) (starts-common t s)

-- where all of it stands
pub common_all : (t s : List ℕ) → starts t s ≡ true → common t s ≡ length t
common_all t s e = eqb-true (common t s) (length t) (sym (starts-common t s) ∙ e)

-- what stands there
pub common_is : (t s : List ℕ) → take (common t s) s ≡ take (common t s) t
unfolding common
common_is [] s = refl
common_is (a ∷ t) [] = refl
common_is (a ∷ t) (b ∷ s) = go (eqb a b) refl (common_is t s) where
  go : (x : Bool) → eqb a b ≡ x → take (common t s) s ≡ take (common t s) t → take (cond x (suc (common t s)) 0) (b ∷ s) ≡ take (cond x (suc (common t s)) 0) (a ∷ t)
  go true e q = rw (eqb-true a b e, q)
  go false e q = refl

-- a text that does not stand there stands there in part
pub common-part : (t s : List ℕ) → starts t s ≡ false → common t s < length t
common-part t s e = go (eqb (common t s) (length t)) refl (common_le t s) where
  go : (x : Bool) → eqb (common t s) (length t) ≡ x → common t s ≤ length t → common t s < length t
  go true q h = let y : true ≡ false = sym (starts-common t s ∙ q) ∙ e in differ cc
  go false q h = let z : common t s ≡ length t → ⊥ = λ i. (let y : false ≡ true = sym q ∙ eq-eqb (common t s) (length t) i in differ cc) in omega arith

pub common-fits : (t s : List ℕ) → common t s ≤ length s
unfolding common
common-fits [] s = omega arith
common-fits (a ∷ t) [] = omega arith
common-fits (a ∷ t) (b ∷ s) = le_by (eqb a b) (common t s) (length s) (common-fits t s)

no_more : (x y z : Bool) → (x && y) ≡ false → (y ≡ false → z ≡ false) → (x && z) ≡ false
no_more true y z e f = f e
no_more false y z e f = refl

-- a longer text does not stand where its beginning does not
pub starts-longer : (t u s : List ℕ) → starts t s ≡ false → starts (t ++ u) s ≡ false
unfolding starts
starts-longer [] u s e = differ cc
starts-longer (a ∷ t) u [] e = refl
starts-longer (a ∷ t) u (b ∷ s) e = no_more (eqb a b) (starts t s) (starts (t ++ u) s) e (starts-longer t u s)
