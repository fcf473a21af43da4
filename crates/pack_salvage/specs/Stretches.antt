-- The skipped stretches of a scan (Req 11): in file order, joined where they touch, none empty, and of the skipped bytes alone. Assumes nothing.
use Rattle.std.specs.Prelude.{◌≡◌, refl, Bool, true, false, cond, List, [], ◌∷◌, ◌⊎◌, ◌↔◌, ℕ, suc, ◌+◌, ◌≤◌, ◌<◌, eqb, length}
use Rattle.std.proofs.Common.{ap, subst, inl, inr, arith, eqb-true}
use Rattle.std.proofs.Math.Decide.{dec_lt}
use Rattle.std.proofs.lemmas.Bool.{eqb-false}
use Rattle.pack_layout.specs.Pack.{marked, record_bytes}
use Rattle.pack_salvage.specs.Scan.{Piece, kept, skipped, kept_of}

-- where a stretch starts, and how many bytes it has
abbrev pub Stretch : Type 0
Stretch = ℕ × ℕ

-- a skipped byte before stretches. Req 11: "joined where they touch".
unfoldable pub joined : (at : ℕ) → List Stretch → List Stretch
joined at [] = (at, 1) ∷ []
joined at (s ∷ l) = cond (eqb s.0 (suc at)) ((at, suc s.1) ∷ l) ((at, 1) ∷ s ∷ l)

-- Req 11: "a list of skipped stretches in file order, start and length"; the first piece starts at a place
unfoldable pub stretches : (at : ℕ) → List Piece → List Stretch
stretches at [] = []
stretches at (kept f ∷ ps) = stretches (at + length (record_bytes marked f)) ps
stretches at (skipped b ∷ ps) = joined at (stretches (suc at) ps)

-- "start and length in 64-bit words"
unfoldable pub words : List Stretch → List ℕ
words [] = []
words (s ∷ l) = s.0 ∷ s.1 ∷ words l

-- stretches from a place on, in file order: none is empty, and no two touch
unfoldable pub Apart : (at : ℕ) → List Stretch → Type 0
Apart at [] = Unit {0}
Apart at (s ∷ l) = (at ≤ s.0) × (1 ≤ s.1) × Apart (suc (s.0 + s.1)) l

pub apart-later : (at from : ℕ) (l : List Stretch) → at ≤ from → Apart from l → Apart at l
unfolding Apart
apart-later at from [] h w = tt
apart-later at from (s ∷ l) h w = (omega (arith, w.0), w.1, w.2)

-- so none of them is empty
pub none_empty : (at : ℕ) (s : Stretch) (l : List Stretch) → Apart at (s ∷ l) → 1 ≤ s.1
unfolding Apart
none_empty at s l w = omega (arith, w.1)

-- ---- The stretches cover the skipped bytes and no others

-- a place lies in a stretch of the list
unfoldable pub Covered : (place : ℕ) → List Stretch → Type 0
Covered place [] = ⊥
Covered place (s ∷ l) = ((s.0 ≤ place) × (place < s.0 + s.1)) ⊎ Covered place l

-- the byte at a place is skipped, where the first piece starts at `at`
unfoldable pub SkippedAt : (place at : ℕ) → List Piece → Type 0
SkippedAt place at [] = ⊥
SkippedAt place at (kept f ∷ ps) = SkippedAt place (at + length (record_bytes marked f)) ps
SkippedAt place at (skipped b ∷ ps) = (place ≡ at) ⊎ SkippedAt place (suc at) ps
