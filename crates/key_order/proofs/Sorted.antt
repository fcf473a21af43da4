-- An order of keys, as a sort of the numbers from 0 on leaves it: each number stands somewhere, no two places have the same, and neighbours rise. Assumes nothing.
use Rattle.std.specs.Prelude.{◌≡◌, refl, Bool, true, false, List, [], ◌∷◌, ◌⊎◌, ℕ, suc, ◌+◌, ◌<◌, length, get_or, eqb, ltb}
use Rattle.std.proofs.Common.{sym, ap, ◌∙◌, inl, inr, arith, eqb-true, ltb-true, ltb-false, le-ltb, lt-ltb, ne_eqb, eq-eqb, Ordering, Equal, Greater}
use Rattle.std.proofs.lemmas.Bool.{eqb-false}
use Rattle.std.proofs.lemmas.Grind.{get_or_default_zero}
use Rattle.std.specs.Ordering.{nat_cmp, ordering_then, ordering_reverse, then_cmp, on, is_lt}
use Rattle.std.proofs.Common as std
use Rattle.std.specs.Cmp.{IsStrictWeakOrder}
use Rattle.std.specs.Cmp.Lexicographic.{slice_cmp}
use Rattle.std.specs.List.{swap}
use Rattle.std.specs.List.Sorted.{IsPermutation, IsSortedBy}
use Rattle.std.proofs.lemmas.Cmp.{nat_list_cmp_total, nat_cmp_total, on_total, then_total}
use Rattle.std.proofs.lemmas.List.Sorted.{IsPermutation-keeps, Contains-permutation, length_permutation, ranks_by}
use Rattle.std.proofs.lemmas.List.Edits.{swapped_from_swap, length-swap}
use Rattle.laws.specs.Small.{differ}
use Rattle.profile.specs.Certificate.{Certificate}
use Rattle.text_order.specs.Ordered.{by_first, order_of, Less, trans, irreflexive, same_means}
use Rattle.key_order.specs.Texts.{rank_of}

-- ---- Numbers that are moved

-- the numbers from 0 on
abbrev pub Counts : List ℕ → Type 0
Counts l = (i : ℕ) → i < length l → get_or l i 0 ≡ i

-- no two places have the same number
abbrev Apart : List ℕ → Type 0
Apart l = (i j : ℕ) → i < length l → j < length l → get_or l i 0 ≡ get_or l j 0 → i ≡ j

counts_apart : (l : List ℕ) → Counts l → Apart l
counts_apart l c i j h k e = sym (c i h) ∙ e ∙ c j k

-- place i after places a and b were exchanged is place k before
abbrev Was : (a b i k : ℕ) → Type 0
Was a b i k = ((i ≡ a) × (k ≡ b)) ⊎ (((i ≡ b) × (k ≡ a)) ⊎ ((k ≡ i) × (i ≡ a → ⊥) × (i ≡ b → ⊥)))

was_at : (l : List ℕ) (a b : ℕ) → a < length l → b < length l → (i : ℕ) → i < length l → (k : ℕ) × (k < length l) × (get_or (swap l a b) i 0 ≡ get_or l k 0) × Was a b i k
was_at l a b p q i h = go (eqb i a) refl (eqb i b) refl where
  go : (x : Bool) → eqb i a ≡ x → (y : Bool) → eqb i b ≡ y → (k : ℕ) × (k < length l) × (get_or (swap l a b) i 0 ≡ get_or l k 0) × Was a b i k
  go true e y f =
      let s = swapped_from_swap l (swap l a b) a b 0 p q refl in
      let z = eqb-true i a e in (b, q, ap (λ (n : ℕ). get_or (swap l a b) n 0) z ∙ s.0, inl (z, refl))
  go false e true f =
      let s = swapped_from_swap l (swap l a b) a b 0 p q refl in
      let z = eqb-true i b f in (a, p, ap (λ (n : ℕ). get_or (swap l a b) n 0) z ∙ s.1, inr (inl (z, refl)))
  go false e false f =
      let s = swapped_from_swap l (swap l a b) a b 0 p q refl in
      (i, h, s.2 i (eqb-false i a e) (eqb-false i b f), inr (inr (refl, eqb-false i a e, eqb-false i b f)))

same_place : (a b i j k m : ℕ) → Was a b i k → Was a b j m → k ≡ m → i ≡ j
same_place a b i j k m (inl x) (inl y) z = x.0 ∙ sym y.0
same_place a b i j k m (inl x) (inr (inl y)) z = x.0 ∙ sym y.1 ∙ sym z ∙ x.1 ∙ sym y.0
same_place a b i j k m (inl x) (inr (inr y)) z = absurd (y.2 (sym y.0 ∙ sym z ∙ x.1))
same_place a b i j k m (inr (inl x)) (inl y) z = x.0 ∙ sym y.1 ∙ sym z ∙ x.1 ∙ sym y.0
same_place a b i j k m (inr (inl x)) (inr (inl y)) z = x.0 ∙ sym y.0
same_place a b i j k m (inr (inl x)) (inr (inr y)) z = absurd (y.1 (sym y.0 ∙ sym z ∙ x.1))
same_place a b i j k m (inr (inr x)) (inl y) z = absurd (x.2 (sym x.0 ∙ z ∙ y.1))
same_place a b i j k m (inr (inr x)) (inr (inl y)) z = absurd (x.1 (sym x.0 ∙ z ∙ y.1))
same_place a b i j k m (inr (inr x)) (inr (inr y)) z = sym x.0 ∙ z ∙ y.0

swap_apart : (l : List ℕ) (a b : ℕ) → a < length l → b < length l → Apart l → Apart (swap l a b)
swap_apart l a b p q n i j h k e =
    let x = was_at l a b p q i (rw length-swap at h) in
    let y = was_at l a b p q j (rw length-swap at k) in
    same_place a b i j x.0 y.0 x.3 y.3 (n x.0 y.0 x.1 y.1 (sym x.2 ∙ e ∙ y.2))

moved_apart : (l m : List ℕ) → Counts l → IsPermutation l m → Apart m
moved_apart l m c p = IsPermutation-keeps l Apart (counts_apart l c) swap_apart m p

-- ---- The order of keys

order_is : (s t : List ℕ) → order_of s t ≡ slice_cmp nat_cmp s t
unfolding order_of
order_is [] [] = refl
order_is [] (y ∷ t) = refl
order_is (x ∷ s) [] = refl
order_is (x ∷ s) (y ∷ t) = go (ltb x y) refl (ltb y x) refl (order_is s t) where
  go : (a : Bool) → ltb x y ≡ a → (b : Bool) → ltb y x ≡ b → order_of s t ≡ slice_cmp nat_cmp s t → by_first (ltb x y) (ltb y x) (order_of s t) ≡ ordering_then (nat_cmp x y) (slice_cmp nat_cmp s t)
  go true p b q e = rw p
  go false p true q e = let n = ltb-true y x q in rw (p, q, ne_eqb x y (λ z. omega arith))
  go false p false q e = let z : x ≡ y = omega (arith, ltb-false x y p, ltb-false y x q) in rw (p, q, eq-eqb x y z) e

module _ (text : ℕ → List ℕ) where
  rank_is : (a b : ℕ) → rank_of text a b ≡ then_cmp (on text (slice_cmp nat_cmp)) nat_cmp a b
  rank_is a b = ap (λ (o : Ordering). ordering_then o (nat_cmp a b)) (order_is (text a) (text b))

  pub ranks : IsStrictWeakOrder (λ a b. is_lt (rank_of text a b))
  ranks =
      let w = ranks_by (then_total (on_total text nat_list_cmp_total) nat_cmp_total) (λ (x : ℕ). x) in record {
        one_way = λ a b h. ap is_lt (rank_is b a) ∙ w.one_way a b (sym (ap is_lt (rank_is a b)) ∙ h);
        chain = λ a b c h k. ap is_lt (rank_is a c) ∙ w.chain a b c (sym (ap is_lt (rank_is a b)) ∙ h) (sym (ap is_lt (rank_is b c)) ∙ k);
      }

  abbrev KeyBefore : (a b : ℕ) → Type 0
  KeyBefore a b = Less (text a) (text b) ⊎ ((text a ≡ text b) × (a < b))

  not_below : (a b : ℕ) → is_lt (nat_cmp b a) ≡ false → (a ≡ b → ⊥) → a < b
  not_below a b e n = go (ltb b a) refl where
    go : (t : Bool) → ltb b a ≡ t → a < b
    go true p = differ cc
    go false p = omega (arith, ltb-false b a p, n)

  rises_when : (a b : ℕ) → is_lt (rank_of text b a) ≡ false → (a ≡ b → ⊥) → KeyBefore a b
  rises_when a b e n = go (order_of (text b) (text a)) refl e where
    go : (o : Ordering) → order_of (text b) (text a) ≡ o → is_lt (ordering_then o (nat_cmp b a)) ≡ false → KeyBefore a b
    go std.Less p e = differ cc
    go Equal p e = inr (sym (same_means (text b) (text a) p), not_below a b e n)
    go Greater p e = inl (order_is (text a) (text b) ∙ nat_list_cmp_total.antisymm (text a) (text b) ∙ ap ordering_reverse (sym (order_is (text b) (text a)) ∙ p))

  module _ (l m : List ℕ) (c : Counts l) (p : IsPermutation l m) (s : IsSortedBy (λ a b. is_lt (rank_of text a b)) m) where
    long : length m ≡ length l
    long = length_permutation l m p

    -- a place of each number
    found : (i : ℕ) → (k : ℕ) × (i < length l → (k < length l) × (get_or m k 0 ≡ i))
    found i = go (ltb i (length l)) refl where
      go : (t : Bool) → ltb i (length l) ≡ t → (k : ℕ) × (i < length l → (k < length l) × (get_or m k 0 ≡ i))
      go true e =
          let h = ltb-true i (length l) e in
          let x = Contains-permutation l m i p (i, h, get_or_default_zero l i i h ∙ c i h) in
          (x.0, λ _. (omega (arith, x.1, long), sym (get_or_default_zero m x.0 i x.1) ∙ x.2))
      go false e = (0, λ h. absurd (omega (arith, ltb-false i (length l) e)))

    pub sorted_certificate : Certificate Less trans irreflexive text (length l) (λ (j : ℕ). get_or m j 0)
    sorted_certificate = record {
      of = λ i. (found i).0;
      inside = λ i h. ((found i).1 h).0;
      covers = λ i h. ((found i).1 h).1;
      rises = λ j h.
          let z : j + 1 ≡ suc j = omega arith in
          rises_when (get_or m j 0) (get_or m (suc j) 0) (rw z at (s j 0 (omega arith) (omega (arith, long)))) (λ e. let w = moved_apart l m c p j (suc j) (omega (arith, long)) (omega (arith, long)) e in omega arith);
    }
