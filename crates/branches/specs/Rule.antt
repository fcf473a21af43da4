-- The rule of the seventh word (02, Req 09), over rows that are numbered from 0. Assumes nothing.
use Rattle.std.specs.Prelude.{◌≡◌, refl}
use Rattle.std.proofs.Common.{sym, ◌∙◌}
use Prim.Native.Nat.{ℕ, zero, suc, ◌+◌, ◌<◌, ◌≤◌}
use native.Mathlib.Omega.{arith}
use Rattle.layout.specs.Branches.{naming, Chain, Skips, Roots}

naming_same : (p q : ℕ → ℕ) (name at n used : ℕ) → ((i : ℕ) → i < used → p i ≡ q i) → at + n ≤ used → naming p name at n ≡ naming q name at n
unfolding naming
naming_same p q name at zero used h l = refl
naming_same p q name at (suc n) used h l = rw (h at (omega arith), naming_same p q name (suc at) n used h (omega arith))

chain_same : (p q b d : ℕ → ℕ) (used name at n end : ℕ) → ((i : ℕ) → i < used → p i ≡ q i) → ((i : ℕ) → i < used → b i ≡ d i)
    → Chain p b used name at n end → Chain q d used name at n end
unfolding Chain
chain_same p q b d used name at zero end h g c = c
chain_same p q b d used name at (suc n) end h g c =
    let m : b at ≡ d at = g at c.0 in
    (c.0, sym (h at c.0) ∙ c.1, chain_same p q b d used name (at + d at) n end h g (rw m at c.2))

-- rows that say the same keep the rule alike
pub skips_same : (c d p q b e : ℕ → ℕ) (used : ℕ) → ((i : ℕ) → i < used → c i ≡ d i) → ((i : ℕ) → i < used → p i ≡ q i) → ((i : ℕ) → i < used → b i ≡ e i)
    → Skips c p b used → Skips d q e used
skips_same c d p q b e used f g h s = record {
  many = λ i l. sym (naming_same p q (suc i) 0 used used g (omega arith)) ∙ s.many i l ∙ f i l;
  chain = λ i l. rw (← f i l, ← h i l) (chain_same p q b e used (suc i) (suc i) (c i) (i + b i) g h (s.chain i l));
}

pub roots_same : (p q b e : ℕ → ℕ) (used objects : ℕ) → ((i : ℕ) → i < used → p i ≡ q i) → ((i : ℕ) → i < used → b i ≡ e i) → Roots p b used objects → Roots q e used objects
roots_same p q b e used objects g h s = record {
  many = sym (naming_same p q 0 0 used used g (omega arith)) ∙ s.many;
  chain = chain_same p q b e used 0 0 objects used g h s.chain;
}

-- ---- Where a branch ends

module _ {children parent branch : ℕ → ℕ} {used : ℕ} (s : Skips children parent branch used) where
  abbrev Ends : ℕ → Type 0
  Ends i = (1 ≤ branch i) × (i + branch i ≤ used)

  chain_ends : (name at n end : ℕ) → at ≤ used → ((i : ℕ) → at ≤ i → i < used → Ends i) → Chain parent branch used name at n end → (at ≤ end) × (end ≤ used)
  unfolding Chain
  chain_ends name at zero end l f c = (omega arith, omega arith)
  chain_ends name at (suc n) end l f c =
      let x = f at (omega arith) c.0 in
      let y = chain_ends name (at + branch at) n end x.1 (λ i h k. f i (omega (arith, x.0)) k) c.2 in
      (omega (arith, x.0, y.0), y.1)

  ends_in : (rows i : ℕ) → used ≤ i + rows → i < used → Ends i
  ends_in zero i h l = absurd (omega arith)
  ends_in (suc rows) i h l =
      let y = chain_ends (suc i) (suc i) (children i) (i + branch i) (omega arith) (λ j k m. ends_in rows j (omega arith) m) (s.chain i l) in
      (omega (arith, y.0), y.1)

  -- a used row and all below it are used rows
  pub branch_ends : (i : ℕ) → i < used → (1 ≤ branch i) × (i + branch i ≤ used)
  branch_ends i l = ends_in used i (omega arith) l
