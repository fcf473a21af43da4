-- What holds of what an answer holds. Assumes nothing.
use Rattle.std.specs.Prelude.{◌≡◌, refl, Bool, true, false, cond}

-- P holds of what the answer r holds, where `of a b` is the answer that holds a and b
pub record Ok {A B R : Type 0} (of : A → B → R) (P : A → B → Type 0) (r : R) : Type 0 where
  pub got : {a : A} {b : B} → r ≡ of a b → P a b

module _ {A B R : Type 0} {of : A → B → R} where
  -- of one of two answers, by a test
  pub ok_pick : {P : A → B → Type 0} (b : Bool) {x y : R} → (b ≡ true → Ok of P x) → Ok of P y → Ok of P (cond b x y)
  ok_pick true f g = f refl
  ok_pick false f g = g

  -- of an answer, what follows from what holds of it
  pub ok_weaken : {P Q : A → B → Type 0} {r : R} → Ok of P r → ((a : A) (b : B) → P a b → Q a b) → Ok of Q r
  ok_weaken o f = record { got = λ {a} {b} e. f a b (o.got e) }
