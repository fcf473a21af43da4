-- Places of texts that repeat an earlier one: by pairs, and by the neighbours of an order that was tested. Assumes nothing.
use Rattle.std.specs.Prelude.{◌≡◌, refl, Bool, true, false, List, ◌⊎◌, ℕ, suc, ◌+◌, ◌<◌, ◌≤◌, eqb, Option, None, Some}
use Rattle.std.proofs.Common.{sym, ap, ◌∙◌, inl, inr, eqb-true}
use native.Mathlib.Omega.{arith}
use Rattle.std.proofs.lemmas.Bool.{eqb-false}
use Rattle.profile.specs.Certificate.{Certificate, repeats_neighbour, neighbour_repeats}
use Rattle.fault_places.specs.Places.{lower_of, Lowest, lowest-alike, lowest-both}

-- texts and places by number
module _ (text : ℕ → List ℕ) (place : ℕ → ℕ) where
  -- text i repeats an earlier one
  abbrev pub Repeats : (i : ℕ) → Type 0
  Repeats i = (h : ℕ) × (h < i) × (text h ≡ text i)

  -- the place of one of the first n that does
  abbrev pub Pair : (n p : ℕ) → Type 0
  Pair n p = (i : ℕ) × (i < n) × Repeats i × (place i ≡ p)

  -- the place of the second of two equal neighbours among the first n of an order of m texts
  abbrev pub Neighbour : (order : ℕ → ℕ) (m n p : ℕ) → Type 0
  Neighbour order m n p = (j : ℕ) × (suc j < n) × (order (suc j) < m) × (text (order j) ≡ text (order (suc j))) × (place (order (suc j)) ≡ p)

  -- ---- One more

  pub no_pairs : Lowest (Pair 0) None
  unfolding Lowest
  no_pairs = λ p x. let h = x.1 in omega arith

  abbrev pub One : (i p : ℕ) → Type 0
  One i p = Repeats i × (place i ≡ p)

  pub one_repeats : (i : ℕ) {p : ℕ} → Repeats i → place i ≡ p → Lowest (One i) (Some p)
  unfolding Lowest
  one_repeats i r e = ((r, e), λ q x. let f = x.1 in omega (arith, e))

  pub none-repeats : (i : ℕ) → (Repeats i → ⊥) → Lowest (One i) None
  unfolding Lowest
  none-repeats i n = λ p x. n x.0

  split_pair : (i p : ℕ) → Pair (i + 1) p → Pair i p ⊎ One i p
  split_pair i p (j, h, r, e) = go (eqb j i) refl where
    go : (b : Bool) → eqb j i ≡ b → Pair i p ⊎ One i p
    go true t = let z = eqb-true j i t in let x : One j p = (r, e) in inr (rw z at x)
    go false t = inl (j, omega (arith, eqb-false j i t), r, e)

  join_pair : (i p : ℕ) → Pair i p ⊎ One i p → Pair (i + 1) p
  join_pair i p (inl (j, h, r, e)) = (j, omega arith, r, e)
  join_pair i p (inr (r, e)) = (i, omega arith, r, e)

  pub more-pairs : (i : ℕ) (a b : Option ℕ) → Lowest (Pair i) a → Lowest (One i) b → Lowest (Pair (i + 1)) (lower_of a b)
  more-pairs i a b l m = lowest-alike (λ p. Pair i p ⊎ One i p) (Pair (i + 1)) (lower_of a b) (λ p x. join_pair i p x) (λ p x. split_pair i p x) (lowest-both (Pair i) (One i) a b l m)

  module _ (order : ℕ → ℕ) (m : ℕ) where
    pub no_neighbours : (n : ℕ) → n ≤ 1 → Lowest (Neighbour order m n) None
    unfolding Lowest
    no_neighbours n h = λ p x. let k = x.1 in omega arith

    abbrev pub Next : (j p : ℕ) → Type 0
    Next j p = (order (suc j) < m) × (text (order j) ≡ text (order (suc j))) × (place (order (suc j)) ≡ p)

    pub next_equal : (j : ℕ) {p : ℕ} → order (suc j) < m → text (order j) ≡ text (order (suc j)) → place (order (suc j)) ≡ p → Lowest (Next j) (Some p)
    unfolding Lowest
    next_equal j h t e = ((h, t, e), λ q x. let f = x.2 in omega (arith, e))

    pub next_differs : (j : ℕ) → (order (suc j) < m → text (order j) ≡ text (order (suc j)) → ⊥) → Lowest (Next j) None
    unfolding Lowest
    next_differs j n = λ p x. n x.0 x.1

    split_next : (j p : ℕ) → Neighbour order m (suc (suc j)) p → Neighbour order m (suc j) p ⊎ Next j p
    split_next j p (k, h, l, t, e) = go (eqb k j) refl where
      go : (b : Bool) → eqb k j ≡ b → Neighbour order m (suc j) p ⊎ Next j p
      go true q = let z = eqb-true k j q in let x : Next k p = (l, t, e) in inr (rw z at x)
      go false q = inl (k, omega (arith, eqb-false k j q), l, t, e)

    join_next : (j p : ℕ) → Neighbour order m (suc j) p ⊎ Next j p → Neighbour order m (suc (suc j)) p
    join_next j p (inl (k, h, l, t, e)) = (k, omega arith, l, t, e)
    join_next j p (inr (l, t, e)) = (j, omega arith, l, t, e)

    pub more_neighbours : (j : ℕ) (a b : Option ℕ) → Lowest (Neighbour order m (suc j)) a → Lowest (Next j) b → Lowest (Neighbour order m (suc (suc j))) (lower_of a b)
    more_neighbours j a b l r =
        lowest-alike (λ p. Neighbour order m (suc j) p ⊎ Next j p) (Neighbour order m (suc (suc j))) (lower_of a b) (λ p x. join_next j p x) (λ p x. split_next j p x)
        (lowest-both (Neighbour order m (suc j)) (Next j) a b l r)

  -- an order that was tested tells the same places
  module _ (order : ℕ → ℕ) (Less : List ℕ → List ℕ → Type 0) (trans : (s t u : List ℕ) → Less s t → Less t u → Less s u) (irreflexive : (t : List ℕ) → Less t t → ⊥) (n : ℕ)
      (c : Certificate Less trans irreflexive text n order) where
    pair_next : (p : ℕ) → Pair n p → Neighbour order n n p
    pair_next p (i, h, (k, l, t), e) =
        let x = repeats_neighbour Less trans irreflexive text n order c k i l h t in
        let q = x.2 in
        (x.0, x.1, omega arith, x.3 ∙ ap text (sym x.2), ap place x.2 ∙ e)

    next_pair : (p : ℕ) → Neighbour order n n p → Pair n p
    next_pair p (j, h, l, t, e) = (order (suc j), l, (order j, neighbour_repeats Less trans irreflexive text n order c j h t, t), e)

    pub by_order : (r : Option ℕ) → Lowest (Neighbour order n n) r → Lowest (Pair n) r
    by_order r l = lowest-alike (Neighbour order n n) (Pair n) r (λ p x. next_pair p x) (λ p x. pair_next p x) l
