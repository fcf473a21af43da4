-- Whether a value may have a row (01, refusals 18 and 19). Assumes nothing.
use Rattle.std.specs.Prelude.{◌≡◌, ◌<◌, ◌≤◌, ◌⊎◌, Result, Ok, Err, ℕ, Bool, true, false, cond, leb, eqb}
use Rattle.std.proofs.Common.{refl, inl, inr, eqb-true, leb-true, leb-false}
use Rattle.std.proofs.lemmas.Bool.{eqb-false}
use Rattle.answers.specs.declared.Refusal.{Refusal}
use Rattle.answers.specs.Refusals.{refusal}

-- 18 where no depth is left, then 19 where no row is
abbrev pub room_as : (depth room used at : ℕ) → Result (Unit {0}) Refusal
room_as depth room used at = cond (eqb depth 0) (Err (refusal 18 at)) (cond (leb room used) (Err (refusal 19 at)) (Ok tt))

abbrev u₀ : Unit {0}
u₀ = tt

-- what each answer says
module _ (depth room used at : ℕ) where
  pub has_room : {u : Unit {0}} → Ok u ≡ room_as depth room used at → (depth ≡ 0 → ⊥) × (used < room)
  has_room {u} e = go (eqb depth 0) (leb room used) refl refl e where
    go : (b c : Bool) → eqb depth 0 ≡ b → leb room used ≡ c → Ok u ≡ cond b (Err (refusal 18 at)) (cond c (Err (refusal 19 at)) (Ok u₀)) → (depth ≡ 0 → ⊥) × (used < room)
    go true c p q e = absurd (cc)
    go false true p q e = absurd (cc)
    go false false p q e = (eqb-false depth 0 p, leb-false room used q)

  pub no_room : {e : Refusal} → Err e ≡ room_as depth room used at → ((depth ≡ 0) × (e ≡ refusal 18 at)) ⊎ ((depth ≡ 0 → ⊥) × (room ≤ used) × (e ≡ refusal 19 at))
  no_room {e} w = go (eqb depth 0) (leb room used) refl refl w where
    go : (b c : Bool) → eqb depth 0 ≡ b → leb room used ≡ c → Err e ≡ cond b (Err (refusal 18 at)) (cond c (Err (refusal 19 at)) (Ok u₀))
        → ((depth ≡ 0) × (e ≡ refusal 18 at)) ⊎ ((depth ≡ 0 → ⊥) × (room ≤ used) × (e ≡ refusal 19 at))
    go true c p q w = inl (eqb-true depth 0 p, cc)
    go false true p q w = inr (eqb-false depth 0 p, leb-true room used q, cc)
    go false false p q w = absurd (cc)
