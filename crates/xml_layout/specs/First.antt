-- The first place where bytes are of no form (Req 13, 64). Assumes nothing.
use Rattle.std.specs.Prelude.{◌≡◌, List, ◌++◌, ℕ, suc, ◌≤◌, ◌<◌, length, take}

-- these bytes begin a form of some value
pub record Begins {A : Type 0} (F : A → List ℕ → Type 0) (bs : List ℕ) : Type 0 where
  pub value : A
  pub form : List ℕ
  pub more : List ℕ
  pub lays : F value form
  pub parts : form ≡ bs ++ more

-- Req 13: "at the first byte where no export agrees, or its end if it stops short": the bytes before the place begin a form, with the byte there they begin none, and all of them are none
pub record FirstWrong {A : Type 0} (F : A → List ℕ → Type 0) (bs : List ℕ) (n : ℕ) : Type 0 where
  pub within : n ≤ length bs
  pub begins : Begins F (take n bs)
  pub no_more : n < length bs → Begins F (take (suc n) bs) → ⊥
  pub none : (a : A) → F a bs → ⊥
