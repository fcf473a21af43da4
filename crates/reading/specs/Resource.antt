-- The tests of resource ids, and that they say just what the layout's rules say. Assumes nothing.
use Rattle.std.specs.Prelude.{◌≡◌, refl, Bool, true, false, ◌||◌, List, [], ◌∷◌, ◌⊎◌, ℕ, zero, suc, ◌≤◌, eqb, length, get_or}
use Rattle.std.proofs.Common.{ap, inl, inr, eqb-true, eq-eqb}
use Rattle.layout.specs.Tree.{Trees, none, tree, count, kind_at}
use Rattle.layout.specs.Resource.{Resource}
use Rattle.reading.specs.Drafts.{Wants, nothing, resource}

-- the kinds of trees, in order
unfoldable pub kinds : Trees → List ℕ
kinds none = []
kinds (tree k i own cs rest) = k ∷ kinds rest

-- a resource of a kind suits one that wants a kind: null suits every reference
unfoldable pub suit : (wanted kind : ℕ) → Bool
suit wanted kind = eqb kind 0 || eqb kind wanted

-- resource id 0 is null; the others count the shared objects, of these kinds, from 1
unfoldable pub suits : (shared : List ℕ) → Wants → (id : ℕ) → Bool
suits shared nothing id = true
suits shared (resource wanted) id = suit wanted (get_or (0 ∷ shared) id 0)

pub length-kinds : (ts : Trees) → length (kinds ts) ≡ count ts
unfolding kinds count
length-kinds none = refl
length-kinds (tree k i own cs rest) = ap suc (length-kinds rest)

kind_at_lem : (i : ℕ) (ts : Trees) → get_or (kinds ts) i 0 ≡ kind_at i ts
unfolding kinds kind_at
kind_at_lem i none = refl
kind_at_lem zero (tree k d own cs rest) = refl
kind_at_lem (suc i) (tree k d own cs rest) = kind_at_lem i rest

suit-sound : (wanted kind : ℕ) → suit wanted kind ≡ true → (kind ≡ 0) ⊎ (kind ≡ wanted)
unfolding suit
suit-sound wanted kind t = go (eqb kind 0) refl t where
  go : (b : Bool) → eqb kind 0 ≡ b → (eqb kind 0 || eqb kind wanted) ≡ true → (kind ≡ 0) ⊎ (kind ≡ wanted)
  go true e q = inl (eqb-true kind 0 e)
  go false e q = inr (eqb-true kind wanted (rw e at q))

suit-complete : (wanted kind : ℕ) → (kind ≡ 0) ⊎ (kind ≡ wanted) → suit wanted kind ≡ true
unfolding suit
suit-complete wanted kind (inl e) = rw (eq-eqb kind 0 e)
suit-complete wanted kind (inr e) = rw (eq-eqb kind wanted e) (always (eqb kind 0)) where
  always : (b : Bool) → (b || true) ≡ true
  always true = refl
  always false = refl

-- a reference that wants a kind may name a shared object just if its id is within their count and suits
pub resource-sound : (shared : Trees) (wanted id : ℕ) → id ≤ count shared → suits (kinds shared) (resource wanted) id ≡ true → Resource shared wanted id
unfolding suits
resource-sound shared wanted id h s = record {
  within = h;
  fitting = λ i e. rw kind_at_lem at (suit-sound wanted (get_or (kinds shared) i 0) (rw e at s));
}

pub resource-complete : (shared : Trees) (wanted id : ℕ) → Resource shared wanted id → suits (kinds shared) (resource wanted) id ≡ true
unfolding suits
resource-complete shared wanted zero w = suit-complete wanted 0 (inl refl)
resource-complete shared wanted (suc i) w = rw kind_at_lem (suit-complete wanted (kind_at i shared) (w.fitting i refl))
