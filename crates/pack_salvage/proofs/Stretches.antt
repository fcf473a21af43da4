-- The skipped stretches of a scan (Req 11): in file order, joined where they touch, none empty, and of the skipped bytes alone. Assumes nothing.
use Rattle.std.specs.Prelude.{◌≡◌, refl, Bool, true, false, cond, List, [], ◌∷◌, ◌⊎◌, ◌↔◌, ℕ, suc, ◌+◌, ◌≤◌, ◌<◌, eqb, length}
use Rattle.std.proofs.Common.{ap, subst, inl, inr, arith, eqb-true}
use Rattle.std.proofs.Math.Decide.{dec_lt}
use Rattle.std.proofs.lemmas.Bool.{eqb-false}
use Rattle.pack_layout.specs.Pack.{marked, record_bytes}
use Rattle.pack_salvage.specs.Scan.{Piece, kept, skipped, kept_of}
use Rattle.pack_salvage.specs.Stretches.{Apart, Covered, SkippedAt, Stretch, apart-later, joined, stretches}

later : (n m : ℕ) → m ≤ n → (n ≡ m → ⊥) → suc m ≤ n
later n m h f = go (dec_lt m n) where
  go : Dec (m < n) → suc m ≤ n
  go (yes k) = k
  go (no k) = absurd (f (omega arith))

joined-apart : (at : ℕ) (l : List Stretch) → Apart (suc at) l → Apart at (joined at l)
unfolding Apart joined
joined-apart at [] w = (omega arith, omega arith, tt)
joined-apart at (s ∷ l) w = go (eqb s.0 (suc at)) refl where
  go : (t : Bool) → eqb s.0 (suc at) ≡ t → Apart at (cond t ((at, suc s.1) ∷ l) ((at, 1) ∷ s ∷ l))
  go true q =
      let e : s.0 ≡ suc at = eqb-true s.0 (suc at) q in
      let z : suc (s.0 + s.1) ≡ suc (at + suc s.1) = omega arith in
      (omega arith, omega arith, subst (λ (n : ℕ). Apart n l) z w.2)
  go false q =
      let f = eqb-false s.0 (suc at) q in
      let k : suc (suc at) ≤ s.0 = later s.0 (suc at) w.0 f in
      (omega arith, omega arith, (omega arith, w.1, w.2))

pub stretches-apart : (at : ℕ) (ps : List Piece) → Apart at (stretches at ps)
unfolding stretches Apart
stretches-apart at [] = tt
stretches-apart at (kept f ∷ ps) =
    apart-later at (at + length (record_bytes marked f)) (stretches (at + length (record_bytes marked f)) ps) (omega arith) (stretches-apart (at + length (record_bytes marked f)) ps)
stretches-apart at (skipped b ∷ ps) = joined-apart at (stretches (suc at) ps) (stretches-apart (suc at) ps)

-- ---- There is one stretch more than kept records at most

-- where the first byte is skipped, the first stretch starts with it and is one more
abbrev Few : (at : ℕ) (most : ℕ) → List Stretch → Type 0
Few at most l = (length l ≤ most) ⊎ ((n : ℕ) × (rest : List Stretch) × (l ≡ (at, n) ∷ rest) × (length rest ≤ most))

few_at_most : (at most : ℕ) (l : List Stretch) → Few at most l → length l ≤ suc most
few_at_most at most l (inl h) = omega (arith, h)
few_at_most at most l (inr w) = omega (arith, w.3, ap length w.2)

joined_few : (at most : ℕ) (l : List Stretch) → Few (suc at) most l → Few at most (joined at l)
unfolding joined
joined_few at most [] w = inr (1, [], refl, omega arith)
joined_few at most (s ∷ l) (inl h) = go (eqb s.0 (suc at)) where
  go : (t : Bool) → Few at most (cond t ((at, suc s.1) ∷ l) ((at, 1) ∷ s ∷ l))
  go true = inr (suc s.1, l, refl, omega (arith, h))
  go false = inr (1, s ∷ l, refl, h)
joined_few at most (s ∷ l) (inr w) = go (eqb s.0 (suc at)) refl where
  go : (t : Bool) → eqb s.0 (suc at) ≡ t → Few at most (cond t ((at, suc s.1) ∷ l) ((at, 1) ∷ s ∷ l))
  go true q = inr (suc s.1, l, refl, omega (arith, w.3, ap length w.2))
  go false q =
      let e : s ≡ (suc at, w.0) = cc w.2 in
      absurd (eqb-false s.0 (suc at) q (ap (λ (x : Stretch). x.0) e))

stretches_few : (at : ℕ) (ps : List Piece) → Few at (length (kept_of ps)) (stretches at ps)
unfolding stretches kept_of
stretches_few at [] = inl (omega arith)
stretches_few at (kept f ∷ ps) = inl (few_at_most (at + length (record_bytes marked f)) (length (kept_of ps)) (stretches (at + length (record_bytes marked f)) ps) (stretches_few (at + length (record_bytes marked f)) ps))
stretches_few at (skipped b ∷ ps) = joined_few at (length (kept_of ps)) (stretches (suc at) ps) (stretches_few (suc at) ps)

pub stretches-at_most : (at : ℕ) (ps : List Piece) → length (stretches at ps) ≤ suc (length (kept_of ps))
stretches-at_most at ps = few_at_most at (length (kept_of ps)) (stretches at ps) (stretches_few at ps)

joined-covers : (place at : ℕ) (l : List Stretch) → Apart (suc at) l → Covered place (joined at l) ↔ ((place ≡ at) ⊎ Covered place l)
unfolding Covered joined Apart
joined-covers place at [] w = (to, from) where
  to : ((at ≤ place) × (place < at + 1)) ⊎ ⊥ → (place ≡ at) ⊎ ⊥
  to (inl c) = inl (omega (arith, c.0, c.1))
  to (inr c) = absurd c

  from : (place ≡ at) ⊎ ⊥ → ((at ≤ place) × (place < at + 1)) ⊎ ⊥
  from (inl c) = inl (omega arith, omega arith)
  from (inr c) = absurd c
joined-covers place at (s ∷ l) w = go (eqb s.0 (suc at)) refl where
  go : (t : Bool) → eqb s.0 (suc at) ≡ t → Covered place (cond t ((at, suc s.1) ∷ l) ((at, 1) ∷ s ∷ l)) ↔ ((place ≡ at) ⊎ Covered place (s ∷ l))
  go true q = (to, from) where
    e : s.0 ≡ suc at
    e = eqb-true s.0 (suc at) q

    to : ((at ≤ place) × (place < at + suc s.1)) ⊎ Covered place l → (place ≡ at) ⊎ (((s.0 ≤ place) × (place < s.0 + s.1)) ⊎ Covered place l)
    to (inr c) = inr (inr c)
    to (inl c) = here (dec_lt at place) where
      here : Dec (at < place) → (place ≡ at) ⊎ (((s.0 ≤ place) × (place < s.0 + s.1)) ⊎ Covered place l)
      here (yes k) = inr (inl (omega (arith, e), omega (arith, e, c.1)))
      here (no k) = inl (omega (arith, c.0))

    from : (place ≡ at) ⊎ (((s.0 ≤ place) × (place < s.0 + s.1)) ⊎ Covered place l) → ((at ≤ place) × (place < at + suc s.1)) ⊎ Covered place l
    from (inl c) = inl (omega arith, omega arith)
    from (inr (inl c)) = inl (omega (arith, e, c.0), omega (arith, e, c.1))
    from (inr (inr c)) = inr c
  go false q = (to, from) where
    to : ((at ≤ place) × (place < at + 1)) ⊎ Covered place (s ∷ l) → (place ≡ at) ⊎ Covered place (s ∷ l)
    to (inl c) = inl (omega (arith, c.0, c.1))
    to (inr c) = inr c

    from : (place ≡ at) ⊎ Covered place (s ∷ l) → ((at ≤ place) × (place < at + 1)) ⊎ Covered place (s ∷ l)
    from (inl c) = inl (omega arith, omega arith)
    from (inr c) = inr c

-- Req 11: "a list of skipped stretches": a place lies in one of them exactly if its byte is skipped
pub covers : (place at : ℕ) (ps : List Piece) → Covered place (stretches at ps) ↔ SkippedAt place at ps
unfolding stretches SkippedAt Covered
covers place at [] = (nothing, nothing) where
  nothing : ⊥ → ⊥
  nothing c = c
covers place at (kept f ∷ ps) = covers place (at + length (record_bytes marked f)) ps
covers place at (skipped b ∷ ps) = both (joined-covers place at (stretches (suc at) ps) (stretches-apart (suc at) ps)) (covers place (suc at) ps) where
  both : Covered place (joined at (stretches (suc at) ps)) ↔ ((place ≡ at) ⊎ Covered place (stretches (suc at) ps)) → Covered place (stretches (suc at) ps) ↔ SkippedAt place (suc at) ps
      → Covered place (joined at (stretches (suc at) ps)) ↔ ((place ≡ at) ⊎ SkippedAt place (suc at) ps)
  both x y = (λ c. onward (x.0 c), λ c. x.1 (back c)) where
    onward : (place ≡ at) ⊎ Covered place (stretches (suc at) ps) → (place ≡ at) ⊎ SkippedAt place (suc at) ps
    onward (inl c) = inl c
    onward (inr c) = inr (y.0 c)

    back : (place ≡ at) ⊎ SkippedAt place (suc at) ps → (place ≡ at) ⊎ Covered place (stretches (suc at) ps)
    back (inl c) = inl c
    back (inr c) = inr (y.1 c)
