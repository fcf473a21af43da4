use Rattle.std.specs.Prelude.{◌≡◌, refl, Bool, true, false, ℕ, Err}
use Rattle.std.proofs.Math.Bool.{not}
use Rattle.std.proofs.Math.Dec.{eqb}
use Rattle.std.proofs.Common.{sym, ap, ◌∙◌, eqb-true}
use Rattle.std.proofs.lemmas.Bool.{eqb-false}
use Rattle.answers.specs.declared.Refusal.{Refusal}
use Rattle.answers.specs.Refusals.{refusal}
use Rattle.load.specs.Loads.{Loading}
use Rattle.load_part.specs.Part.{NotFull}
use Rattle.load_part.proofs.not_full.Goals as goal

-- a refusal is told by its number
by_number : (y : Refusal) (told : Loading) (n : ℕ) → told ≡ Err y → n ≡ 19 → (b : Bool) → eqb y.number n ≡ b → NotFull (not b) told
by_number y told n e q true t =
    let z : y.number ≡ 19 = eqb-true y.number n t ∙ q in
    (y.place, e ∙ ap (λ (k : ℕ). Err (refusal k y.place)) z)
by_number y told n e q false t =
    λ p f.
    let w : ◌≡◌ {A = Loading} (Err y) (Err (refusal 19 p)) = sym e ∙ f in
    let v : y ≡ refusal 19 p = cc in
    eqb-false y.number n t (ap (λ (z : Refusal). z.number) v ∙ sym q)

pub returns-in-Err : goal.returns-in-Err
returns-in-Err c = by_number c.in-Err.refusal c.args.told c.number.result c.in-Err.is c.number.ensures (eqb c.in-Err.refusal.number c.number.result) refl
