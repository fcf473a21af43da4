-- The first and the lowest of places, and their laws. Assumes nothing.
use Rattle.std.specs.Prelude.{◌≡◌, refl, Bool, true, false, List, [], ◌∷◌, ◌++◌, ◌⊎◌, ℕ, ◌≤◌, ◌<◌, min, leb, Option, None, Some}
use Rattle.std.proofs.Common.{sym, ap, inl, inr, arith, leb-true, leb-false}
use Rattle.laws.specs.Small.{differ}
use Rattle.profile.specs.Offences.{wrong_at, fault, first, lowest, first_lowest, Offence}

-- the first of some places, and the lowest of them
abbrev pub first_place : List ℕ → Option ℕ
first_place [] = None
first_place (p ∷ places) = Some p

abbrev pub lowest_place : List ℕ → Option ℕ
lowest_place [] = None
lowest_place (p ∷ places) = Some (lowest p places)

-- the lower of two, and the first that is one
abbrev pub lower_of : Option ℕ → Option ℕ → Option ℕ
lower_of None b = b
lower_of (Some p) None = Some p
lower_of (Some p) (Some q) = Some (min p q)

abbrev pub or_else : Option ℕ → Option ℕ → Option ℕ
or_else None b = b
or_else (Some p) b = Some p

-- ---- Of lists

pub first_append : (a b : List ℕ) → first_place (a ++ b) ≡ or_else (first_place a) (first_place b)
first_append [] b = refl
first_append (p ∷ a) b = refl

pub fine-none : (l : List ℕ) → None ≡ first_place l → l ≡ []
fine-none [] e = refl
fine-none (p ∷ l) e = differ cc

-- ---- By what is a place: of some numbers, the lowest

unfoldable pub Lowest : (ℕ → Type 0) → Option ℕ → Type 0
Lowest Hit None = (p : ℕ) → Hit p → ⊥
Lowest Hit (Some p) = Hit p × ((q : ℕ) → Hit q → p ≤ q)

pub lowest-alike : (H K : ℕ → Type 0) (r : Option ℕ) → ((p : ℕ) → H p → K p) → ((p : ℕ) → K p → H p) → Lowest H r → Lowest K r
unfolding Lowest
lowest-alike H K None f g l = λ p k. l p (g p k)
lowest-alike H K (Some p) f g l = (f p l.0, λ q k. l.1 q (g q k))

pub lowest-both : (H K : ℕ → Type 0) (a b : Option ℕ) → Lowest H a → Lowest K b → Lowest (λ p. H p ⊎ K p) (lower_of a b)
unfolding Lowest
lowest-both H K None None l m = λ p x. go p x where
  go : (p : ℕ) → H p ⊎ K p → ⊥
  go p (inl h) = l p h
  go p (inr k) = m p k
lowest-both H K None (Some q) l m = (inr m.0, λ p x. go p x) where
  go : (p : ℕ) → H p ⊎ K p → q ≤ p
  go p (inl h) = absurd (l p h)
  go p (inr k) = m.1 p k
lowest-both H K (Some p) None l m = (inl l.0, λ q x. go q x) where
  go : (q : ℕ) → H q ⊎ K q → p ≤ q
  go q (inl h) = l.1 q h
  go q (inr k) = absurd (m q k)
lowest-both H K (Some p) (Some q) l m = (which (leb p q) refl, λ x y. go x y) where
  which : (b : Bool) → leb p q ≡ b → H (min p q) ⊎ K (min p q)
  which true t = let h = leb-true p q t in let e : min p q ≡ p = omega arith in rw e (inl l.0)
  which false t = let h = leb-false p q t in let e : min p q ≡ q = omega arith in rw e (inr m.0)

  go : (x : ℕ) → H x ⊎ K x → min p q ≤ x
  go x (inl h) = let a = l.1 x h in omega arith
  go x (inr k) = let a = m.1 x k in omega arith

-- membership
unfoldable pub Among : (p : ℕ) → List ℕ → Type 0
Among p [] = ⊥
Among p (q ∷ l) = (q ≡ p) ⊎ Among p l

pub among-append : (p : ℕ) (a b : List ℕ) → Among p (a ++ b) → Among p a ⊎ Among p b
unfolding Among
among-append p [] b m = inr m
among-append p (q ∷ a) b (inl e) = inl (inl e)
among-append p (q ∷ a) b (inr m) = go (among-append p a b m) where
  go : Among p a ⊎ Among p b → ((q ≡ p) ⊎ Among p a) ⊎ Among p b
  go (inl x) = inl (inr x)
  go (inr y) = inr y

pub append-among : (p : ℕ) (a b : List ℕ) → Among p a ⊎ Among p b → Among p (a ++ b)
unfolding Among
append-among p [] b (inl m) = absurd m
append-among p [] b (inr m) = m
append-among p (q ∷ a) b (inl (inl e)) = inl e
append-among p (q ∷ a) b (inl (inr m)) = inr (append-among p a b (inl m))
append-among p (q ∷ a) b (inr m) = inr (append-among p a b (inr m))

-- the place of what a test finds wrong
pub wrong-among : (b : Bool) (x p : ℕ) → Among p (wrong_at b x) → (b ≡ true) × (x ≡ p)
unfolding wrong_at Among
wrong-among true x p (inl e) = (refl, e)
wrong-among true x p (inr e) = absurd e
wrong-among false x p e = absurd e

pub among-wrong : (b : Bool) (x p : ℕ) → b ≡ true → x ≡ p → Among p (wrong_at b x)
unfolding wrong_at Among
among-wrong b x p e f = rw e (inl f)

lowest-least : (p : ℕ) (l : List ℕ) → Lowest (λ q. Among q (p ∷ l)) (Some (lowest p l))
unfolding Lowest Among lowest
lowest-least p [] = (inl refl, λ q x. go q x) where
  go : (q : ℕ) → (p ≡ q) ⊎ ⊥ → p ≤ q
  go q (inl e) = omega arith
  go q (inr b) = absurd b
lowest-least p (q ∷ l) = go (lowest-least (min p q) l) where
  up : (x : ℕ) → (min p q ≡ x) ⊎ Among x l → (p ≡ x) ⊎ ((q ≡ x) ⊎ Among x l)
  up x (inl e) = which (leb p q) refl where
    which : (b : Bool) → leb p q ≡ b → (p ≡ x) ⊎ ((q ≡ x) ⊎ Among x l)
    which true t = inl (omega (arith, leb-true p q t))
    which false t = inr (inl (omega (arith, leb-false p q t)))
  up x (inr m) = inr (inr m)

  go : Lowest (λ x. Among x (min p q ∷ l)) (Some (lowest (min p q) l)) → Lowest (λ x. Among x (p ∷ q ∷ l)) (Some (lowest (min p q) l))
  go (h, f) = (up (lowest (min p q) l) h, λ x y. low x y) where
    low : (x : ℕ) → (p ≡ x) ⊎ ((q ≡ x) ⊎ Among x l) → lowest (min p q) l ≤ x
    low x (inl e) = omega (arith, f (min p q) (inl refl))
    low x (inr (inl e)) = omega (arith, f (min p q) (inl refl))
    low x (inr (inr m)) = f x (inr m)

pub lowest_one : (H : ℕ → Type 0) (a b : Option ℕ) → Lowest H a → Lowest H b → a ≡ b
unfolding Lowest
lowest_one H None None l m = refl
lowest_one H None (Some q) l m = absurd (l q m.0)
lowest_one H (Some p) None l m = absurd (m p l.0)
lowest_one H (Some p) (Some q) l m = let e : p ≡ q = omega (arith, l.1 q m.0, m.1 p l.0) in rw e

-- the lowest of the places of a list
pub lowest_is : (l : List ℕ) (r : Option ℕ) → Lowest (λ p. Among p l) r → r ≡ lowest_place l
unfolding Among Lowest
lowest_is [] r w = lowest_one (λ p. ⊥) r None w (λ p x. x)
lowest_is (p ∷ l) r w = lowest_one (λ q. Among q (p ∷ l)) r (Some (lowest p l)) w (lowest-least p l)

pub is_lowest : (l : List ℕ) → Lowest (λ p. Among p l) (lowest_place l)
unfolding Among Lowest
is_lowest [] = λ p x. x
is_lowest (p ∷ l) = lowest-least p l

pub lowest-append : (a b : List ℕ) → lowest_place (a ++ b) ≡ lower_of (lowest_place a) (lowest_place b)
lowest-append a b =
    sym (lowest_is (a ++ b) (lower_of (lowest_place a) (lowest_place b))
    (lowest-alike (λ p. Among p a ⊎ Among p b) (λ p. Among p (a ++ b)) (lower_of (lowest_place a) (lowest_place b)) (λ p x. append-among p a b x) (λ p x. among-append p a b x)
    (lowest-both (λ p. Among p a) (λ p. Among p b) (lowest_place a) (lowest_place b) (is_lowest a) (is_lowest b))))

pub lower_assoc : (a b c : Option ℕ) → lower_of (lower_of a b) c ≡ lower_of a (lower_of b c)
lower_assoc None b c = refl
lower_assoc (Some p) None c = refl
lower_assoc (Some p) (Some q) None = refl
lower_assoc (Some p) (Some q) (Some r) = let e : min (min p q) r ≡ min p (min q r) = omega arith in rw e

pub lower-fine : (a : Option ℕ) → lower_of a None ≡ a
lower-fine None = refl
lower-fine (Some p) = refl

-- ---- As faults

pub first_fault : (n : ℕ) (l : List ℕ) (x : Offence) {p : ℕ} → Some p ≡ first_place l → first n l x ≡ fault n p
unfolding first
first_fault n [] x e = differ cc
first_fault n (q ∷ l) x {p} e = let z : p ≡ q = cc in rw z

pub first_right : (n : ℕ) (l : List ℕ) (x : Offence) → None ≡ first_place l → first n l x ≡ x
unfolding first
first_right n [] x e = refl
first_right n (q ∷ l) x e = differ cc

pub lowest-fault : (n : ℕ) (l : List ℕ) (x : Offence) {p : ℕ} → Some p ≡ lowest_place l → first_lowest n l x ≡ fault n p
unfolding first_lowest
lowest-fault n [] x e = differ cc
lowest-fault n (q ∷ l) x {p} e = let z : p ≡ lowest q l = cc in rw z

pub lowest_right : (n : ℕ) (l : List ℕ) (x : Offence) → None ≡ lowest_place l → first_lowest n l x ≡ x
unfolding first_lowest
lowest_right n [] x e = refl
lowest_right n (q ∷ l) x e = differ cc

-- ---- The steps of the code

pub keeps_first : {p q : ℕ} {b : Option ℕ} → b ≡ Some q → p < q → Some p ≡ lower_of (Some p) b
keeps_first {p} {q} e h = let z : p ≡ min p q = omega arith in rw e (ap Some z)

pub takes-second : {p q : ℕ} {b : Option ℕ} → b ≡ Some q → q ≤ p → Some q ≡ lower_of (Some p) b
takes-second {p} {q} e h = let z : q ≡ min p q = omega arith in rw e (ap Some z)
