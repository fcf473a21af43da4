-- Slots that differ in nothing but an enum's name, which no value shows: a walk answers the same for them. Assumes nothing.
use Rattle.std.specs.Prelude.{◌≡◌, List, [], ◌∷◌, ◌++◌, length, replicate}
use Rattle.std.proofs.Math.Path.{refl}
use Prim.Native.Nat.{ℕ, zero, suc}
use Rattle.layout.specs.Target.{Target, enum, kind_of}
use Rattle.layout.specs.Slot.{Slot, raw, each, pairs}
use Rattle.reading.specs.Answer.{refused, read, bind}
use Rattle.reading.specs.Rules.{same as same_target, decided}
use Rattle.reading.specs.Font.{font_ok, font_if}
use Rattle.reading.specs.Heads.{head_at}
use Rattle.reading.specs.Walk.{Outcome, done, before, sequence, raw_at, value_at, walk}

pub data Like : Slot → Slot → Type 0 where
  same : {x : Slot} → Like x x
  enums : {m n : List ℕ} {z : ℕ} → Like (raw (enum m z)) (raw (enum n z))

pub data Alike : List Slot → List Slot → Type 0 where
  none : Alike [] []
  more : {x y : Slot} {xs ys : List Slot} → Like x y → Alike xs ys → Alike (x ∷ xs) (y ∷ ys)

pub alike_same : (xs : List Slot) → Alike xs xs
alike_same [] = none
alike_same (x ∷ xs) = more same (alike_same xs)

pub alike-each : {x y : Slot} (n : ℕ) → Like x y → Alike (replicate n x) (replicate n y)
alike-each zero l = none
alike-each (suc n) l = more l (alike-each n l)

pub alike-pairs : {k l v w : Slot} (n : ℕ) → Like k l → Like v w → Alike (pairs n k v) (pairs n l w)
unfolding pairs
alike-pairs zero p q = none
alike-pairs (suc n) p q = more p (more q (alike-pairs n p q))

pub alike-length : {xs ys : List Slot} → Alike xs ys → length xs ≡ length ys
alike-length none = refl
alike-length (more l a) = rw (alike-length a)

-- what a walk answers
module _ (file : List ℕ) (readers : List Target) (shared room : ℕ) where
  enum_walk : (d : ℕ) (m n : List ℕ) (z at used parent : ℕ) → walk file readers shared room d (raw (enum m z)) at used parent ≡ walk file readers shared room d (raw (enum n z)) at used parent
  unfolding walk value_at raw_at head_at kind_of font_ok font_if same_target decided
  enum_walk zero m n z at used parent = refl
  enum_walk (suc d) m n z at used parent = refl

  pub like_walk : (d : ℕ) {x y : Slot} → Like x y → (at used parent : ℕ) → walk file readers shared room d x at used parent ≡ walk file readers shared room d y at used parent
  like_walk d same at used parent = refl
  like_walk d (enums {m = m} {n = n} {z = z}) at used parent = enum_walk d m n z at used parent

-- values one after the other
module _ (step : Slot → ℕ → ℕ → Outcome) (steps : (x y : Slot) → Like x y → (at used : ℕ) → step x at used ≡ step y at used) where
  pub alike-sequence : {xs ys : List Slot} → Alike xs ys → (at used : ℕ) → sequence step (each xs) at used ≡ sequence step (each ys) at used
  unfolding sequence each bind
  alike-sequence none at used = refl
  alike-sequence (more {x = x} {y = y} {xs = xs} {ys = ys} l a) at used = rw (steps x y l at used) (go (step y at used) (alike-sequence a)) where
    go : (o : Outcome) → ((at used : ℕ) → sequence step (each xs) at used ≡ sequence step (each ys) at used)
        → bind o (λ a n. bind (sequence step (each xs) n a.0) (λ b n'. done n' b.0 (a.1 ++ b.1) (before a.2 b.2)))
        ≡ bind o (λ a n. bind (sequence step (each ys) n a.0) (λ b n'. done n' b.0 (a.1 ++ b.1) (before a.2 b.2)))
    go (refused n p) f = refl
    go (read a n) f = rw (f n a.0)
