-- Small laws that the other crates share. Assumes nothing.
use Rattle.std.specs.Prelude.{◌≡◌, refl, Bool, true, false, ◌&&◌, ◌||◌, ℕ}
use Rattle.std.proofs.Common.{arith}

-- two constructors differ: `differ cc` closes a goal where an equation of two of them is at hand
pub differ {ℓ} : {A : Type ℓ} → ◌≡◌ {A = ℕ} 0 1 → A
differ e = absurd (omega arith)

-- both parts of a conjunction that is true
pub both : (a b : Bool) → (a && b) ≡ true → (a ≡ true) × (b ≡ true)
both true b e = (refl, e)
both false b e = differ cc

-- one part of a disjunction that is true
pub either : (a b : Bool) → (a || b) ≡ true → {Q : Type 0} → (a ≡ true → Q) → (b ≡ true → Q) → Q
either true b e f g = f refl
either false b e f g = g e

-- both parts of a disjunction that is false
pub neither : (a b : Bool) → (a || b) ≡ false → (a ≡ false) × (b ≡ false)
neither true b e = differ cc
neither false b e = (refl, e)
