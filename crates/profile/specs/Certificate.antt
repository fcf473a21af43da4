-- Texts in an order: what is known of the order, and that its neighbours then tell which texts repeat an earlier one. Assumes nothing.
use Rattle.std.specs.Prelude.{◌≡◌, refl, Bool, true, false, ◌⊎◌, ℕ, zero, suc, ◌<◌, ◌≤◌, eqb, ltb}
use Rattle.std.proofs.Common.{sym, ap, ◌∙◌, inl, inr, arith, eqb-true, ltb-true, ltb-false}
use Rattle.std.proofs.lemmas.Bool.{eqb-false}

-- n texts by their numbers, and an order of any kind among texts in which none stands before itself
module _ {T : Type 0} (Less : T → T → Type 0) (trans : (s t u : T) → Less s t → Less t u → Less s u) (irreflexive : (t : T) → Less t t → ⊥) (text : ℕ → T) (n : ℕ) where
  -- text a stands before text b: by the order of texts, or equal ones by their numbers
  abbrev pub Before : (a b : ℕ) → Type 0
  Before a b = Less (text a) (text b) ⊎ ((text a ≡ text b) × (a < b))

  -- what is known of the numbers that stand in an order, `order j` at place j
  pub record Certificate (order : ℕ → ℕ) : Type 0 where
    -- each stands somewhere: place `of i` has i
    pub of : ℕ → ℕ
    pub inside : (i : ℕ) → i < n → of i < n
    pub covers : (i : ℕ) → i < n → order (of i) ≡ i
    -- neighbours rise
    pub rises : (j : ℕ) → suc j < n → Before (order j) (order (suc j))

  before_trans : (a b c : ℕ) → Before a b → Before b c → Before a c
  before_trans a b c (inl x) (inl y) = inl (trans (text a) (text b) (text c) x y)
  before_trans a b c (inl x) (inr y) = inl (rw y.0 at x)
  before_trans a b c (inr x) (inl y) = inl (rw x.0 y)
  before_trans a b c (inr x) (inr y) = inr (x.0 ∙ y.0, let p = x.1 in let q = y.1 in omega arith)

  -- of equal texts the later does not stand first
  not_before : (a b : ℕ) → text a ≡ text b → b ≤ a → Before a b → ⊥
  not_before a b e h (inl x) = irreflexive (text b) (rw e at x)
  not_before a b e h (inr x) = let p = x.1 in omega arith

  module _ (order : ℕ → ℕ) (c : Certificate order) where
    far : (a b : ℕ) → a < b → b < n → Before (order a) (order b)
    far a zero h l = absurd (omega arith)
    far a (suc b) h l = go (eqb a b) refl (λ m. far a b m (omega arith)) where
      go : (t : Bool) → eqb a b ≡ t → (a < b → Before (order a) (order b)) → Before (order a) (order (suc b))
      go true e f = let z = eqb-true a b e in rw z (c.rises b l)
      go false e f = before_trans (order a) (order b) (order (suc b)) (f (omega (arith, eqb-false a b e))) (c.rises b l)

    -- between two equal texts stand only equal ones
    between : (a j i : ℕ) → text a ≡ text i → Before a j → Before j i → text j ≡ text i
    between a j i e (inr x) y = sym x.0 ∙ e
    between a j i e (inl x) (inr y) = y.0
    between a j i e (inl x) (inl y) = absurd (irreflexive (text i) (rw e at (trans (text a) (text j) (text i) x y)))

    -- a text that repeats an earlier one stands right behind one equal to it
    pub repeats_neighbour : (h i : ℕ) → h < i → i < n → text h ≡ text i → (j : ℕ) × (suc j < n) × (order (suc j) ≡ i) × (text (order j) ≡ text i)
    repeats_neighbour h i l m e = go (ltb (c.of h) (c.of i)) refl where
      a : ℕ
      a = c.of h

      h_there : order (c.of h) ≡ h
      h_there = c.covers h (omega arith)

      i_there : order (c.of i) ≡ i
      i_there = c.covers i m

      -- the neighbour before place b, at or behind place a
      at_place : (b : ℕ) → c.of i ≡ b → c.of h < b → (j : ℕ) × (suc j < n) × (order (suc j) ≡ i) × (text (order j) ≡ text i)
      at_place zero q p = absurd (omega arith)
      at_place (suc j) q p =
          let u : suc j < n = omega (arith, c.inside i m) in
          let v : order (suc j) ≡ i = ap order (sym q) ∙ i_there in
          (j, u, v, same_text (eqb (c.of h) j) refl) where
            same_text : (t : Bool) → eqb (c.of h) j ≡ t → text (order j) ≡ text i
            same_text true r = ap (λ (k : ℕ). text (order k)) (sym (eqb-true (c.of h) j r)) ∙ ap text h_there ∙ e
            same_text false r =
                let v : order (suc j) ≡ i = ap order (sym q) ∙ i_there in
                let x : Before (order (c.of h)) (order j) = far (c.of h) j (omega (arith, eqb-false (c.of h) j r)) (omega (arith, c.inside i m)) in
                let y : Before (order j) (order (suc j)) = c.rises j (omega (arith, c.inside i m)) in
                between h (order j) i e (rw h_there at x) (rw v at y)

      go : (t : Bool) → ltb (c.of h) (c.of i) ≡ t → (j : ℕ) × (suc j < n) × (order (suc j) ≡ i) × (text (order j) ≡ text i)
      go true q = at_place (c.of i) refl (ltb-true (c.of h) (c.of i) q)
      go false q = other (eqb (c.of h) (c.of i)) refl where
        other : (t : Bool) → eqb (c.of h) (c.of i) ≡ t → (j : ℕ) × (suc j < n) × (order (suc j) ≡ i) × (text (order j) ≡ text i)
        other true r = let z : h ≡ i = sym h_there ∙ ap order (eqb-true (c.of h) (c.of i) r) ∙ i_there in absurd (omega arith)
        other false r =
            let x : Before (order (c.of i)) (order (c.of h)) = far (c.of i) (c.of h) (omega (arith, eqb-false (c.of h) (c.of i) r, ltb-false (c.of h) (c.of i) q)) (c.inside h (omega arith)) in
            absurd (not_before i h (sym e) (omega arith) (rw (i_there, h_there) at x))

    -- and of two equal neighbours the second repeats the first
    pub neighbour_repeats : (j : ℕ) → suc j < n → text (order j) ≡ text (order (suc j)) → order j < order (suc j)
    neighbour_repeats j l e = go (c.rises j l) where
      go : Before (order j) (order (suc j)) → order j < order (suc j)
      go (inl x) = absurd (irreflexive (text (order (suc j))) (rw e at x))
      go (inr x) = x.1
