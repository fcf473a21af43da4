-- Unique reading: bytes that trees may have neither equal nor begin bytes that other trees may have. Assumes nothing.
use Rattle.std.specs.Prelude.{◌≡◌, List, [], ◌++◌, ℕ, ◌+◌, max, length, take}
use Rattle.std.proofs.Common.{sym, ap, ◌∙◌, append-nil, arith}
use Rattle.std.proofs.Math.Seq.{take-append_seam, take-length}
use Rattle.layout.specs.Target.{Target}
use Rattle.layout.specs.Tree.{Trees, size, depth}
use Rattle.layout.specs.Slot.{Plan}
use Rattle.layout.specs.Layout.{Lays}
use Rattle.layout.specs.Resource.{Within}
use Rattle.reading.specs.Walk.{Taken, done}
use Rattle.reading.proofs.Complete.{complete}
use Rattle.reading.specs.Drafts.{drafts_of}

pub unique : (readers : List Target) (shared : ℕ) (plan : Plan) (f₁ f₂ : Trees) (b₁ b₂ r : List ℕ)
    → Lays readers (Within shared) plan f₁ b₁ → Lays readers (Within shared) plan f₂ b₂ → b₁ ++ r ≡ b₂ → (f₁ ≡ f₂) × (b₁ ≡ b₂)
unique readers shared plan f₁ f₂ b₁ b₂ r w₁ w₂ e =
    let d = max (depth f₁) (depth f₂) in
    let room = size f₁ + size f₂ in
    let p₁ = complete b₂ readers shared room d plan f₁ b₁ r w₁ 0 0 0 (omega arith) (omega arith) (sym e) in
    let p₂ = complete b₂ readers shared room d plan f₂ b₂ [] w₂ 0 0 0 (omega arith) (omega arith) (sym (append-nil b₂)) in
    let p : done (0 + length b₁) (0 + size f₁) (drafts_of readers (Within shared) plan f₁ b₁ w₁ 0 0 0) f₁ ≡ done (0 + length b₂) (0 + size f₂) (drafts_of readers (Within shared) plan f₂ b₂ w₂ 0 0 0) f₂ = sym p₁ ∙ p₂ in
    let n : 0 + length b₁ ≡ 0 + length b₂ = cc in
    let l : length b₁ ≡ length b₂ = omega arith in
    let q : ◌≡◌ {A = Taken} (0 + size f₁, drafts_of readers (Within shared) plan f₁ b₁ w₁ 0 0 0, f₁) (0 + size f₂, drafts_of readers (Within shared) plan f₂ b₂ w₂ 0 0 0, f₂) = cc in
    (ap (λ (v : Taken). v.2) q, sym (take-append_seam b₁ r) ∙ ap (take (length b₁)) e ∙ ap (λ (k : ℕ). take k b₂) l ∙ take-length b₂)
