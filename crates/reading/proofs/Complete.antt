-- Trees that are laid down are read back, with their rows, where the depth and the room allow. Assumes nothing.
use Rattle.std.specs.Prelude.{◌≡◌, refl}
use Rattle.std.proofs.Math.Path.{ap}
use Rattle.std.proofs.Common.{◌∙◌, inl, inr}
use mathlib.Core.List.{List, ◌++◌, append_assoc}
use Prim.Native.Nat.{ℕ, zero, suc, ◌+◌, ◌-◌, ◌<◌, ◌≤◌}
use native.Mathlib.Omega.{arith}
use Rattle.std.proofs.Math.ListN.{length, drop, length-append}
use borrow.Author.Tests.{lt-ltb, le-leb}
use Rattle.layout.specs.Target.{Target}
use Rattle.layout.specs.Tree.{Trees, none, tree, size, depth, told, told_of}
use Rattle.layout.specs.Slot.{Leaf, level, blob, numeric, leaf_kind, Slot, raw, object, reference, leaf, Plan, stop, put}
use Rattle.layout.specs.Layout.{Leafed, Raw, Value, Lays}
use Rattle.layout.specs.Resource.{Within}
use Rattle.layout.specs.Rows.{raw_rows, noted_rows, value_rows}
use Rattle.reading.specs.Answer.{read, bind, check}
use Rattle.reading.specs.Reads.{seam}
use Rattle.reading.specs.Seven.{seven_reads}
use Rattle.reading.specs.Rules.{reader, reader-complete, serves, serves-complete, head-invoked, null_id}
use Rattle.reading.specs.Font.{font_complete}
use Rattle.reading.specs.Heads.{head_at, leaf_reads}
use Rattle.reading.proofs.Heads.{head_reads}
use Rattle.reading.specs.Walk.{Outcome, done, before, point, point_is, sequence, raw_at, by_reader, object_at, value_at, walk}
use Rattle.reading.specs.Drafts.{Below, raw_drafts, value_drafts, drafts_of}

leaf_kind_lem : (x : Leaf) (kind : ℕ) (own bs : List ℕ) → Leafed x kind own bs → (kind ≡ leaf_kind x) × Leafed x (leaf_kind x) own bs
unfolding Leafed
leaf_kind_lem (level z) kind own bs w = (w.0, (refl, w.1, w.2, w.3))
leaf_kind_lem (blob z) kind own bs w = (w.0, (refl, w.1, w.2))
leaf_kind_lem (numeric f z rule) kind own bs w = (w.0, (refl, w.1, w.2, w.3))

module _ (file : List ℕ) (readers : List Target) (shared room : ℕ) where
  -- reading below agrees with the layout below, for the children cs
  abbrev Agrees : (below : Plan → List ℕ → Type 0) → Below below → (Plan → ℕ → ℕ → Outcome) → Trees → ℕ → Type 0
  Agrees below rows below' cs used =
      (plan : Plan) (b rest : List ℕ) (w : below plan b) (at : ℕ) → drop at file ≡ b ++ rest
      → below' plan at (suc used) ≡ done (at + length b) (suc used + size cs) (rows plan b w at (suc used) (suc used)) cs

  raw_complete : (below : Plan → List ℕ → Type 0) (rows : Below below) (below' : Plan → ℕ → ℕ → Outcome) (cs : Trees) (used : ℕ)
      → Agrees below rows below' cs used
      → (t : Target) (kind : ℕ) (own bs rest : List ℕ) (w : Raw below t kind own cs bs) (first z at parent id : ℕ)
      → drop at file ≡ bs ++ rest → at + length bs ≡ first + z
      → raw_at file readers shared room below' t first at used parent id
      ≡ done (at + length bs) (suc used + size cs) (raw_drafts below rows t kind own cs bs w first z at used parent id) (tree kind id own cs none)
  unfolding raw_at bind raw_rows check
  raw_complete below rows below' cs used agrees t kind own bs rest w first z at parent id e q =
      let hb = w.head in
      let cb = w.children in
      let e₀ : drop at file ≡ (hb ++ cb) ++ rest = rw w.parts at e in
      let e₁ : drop at file ≡ hb ++ (cb ++ rest) = e₀ ∙ append_assoc hb cb rest in
      let e₂ : drop (at + length hb) file ≡ cb ++ rest = seam file at hb cb rest e₀ in
      let h : head_at file t at ≡ read (own, w.plan) (at + length hb) = (head_reads file t).complete (own, w.plan) hb (cb ++ rest) at w.headed e₁ in
      let g = agrees w.plan cb rest w.laid (at + length hb) e₂ in
      let l : at + length hb + length cb ≡ at + length bs = omega (arith, ap length w.parts, length-append hb cb) in
      let m : at + length bs - first ≡ z = omega arith in
      let b : suc used + size cs - used ≡ suc (size cs) = omega arith in
      rw (h, g, font_complete point point_is t cs w.font, l, m, b, w.kind_of_lem)

  value_complete : (below : Plan → List ℕ → Type 0) (rows : Below below) (below' : Plan → ℕ → ℕ → Outcome) (cs : Trees) (used : ℕ)
      → Agrees below rows below' cs used
      → (x : Slot) (kind id : ℕ) (own bs rest : List ℕ) (w : Value readers (Within shared) below x kind id own cs bs) (at parent : ℕ)
      → drop at file ≡ bs ++ rest
      → value_at file readers shared room below' x at used parent
      ≡ done (at + length bs) (suc used + size cs) (value_drafts readers (Within shared) below rows x kind id own cs bs w at used parent) (tree kind id own cs none)
  unfolding value_at value_rows Value bind object_at by_reader check size
  value_complete below rows below' cs used g (raw t) kind id own bs rest w at parent e =
      rw w.0 (raw_complete below rows below' cs used g t kind own bs rest w.1 at (length bs) at parent 0 e refl)
  value_complete below rows below' cs used g (object t) kind id own bs rest (inl w) at parent e =
      let m : at + length bs - at ≡ length bs = omega arith in
      let z : suc used + 0 ≡ suc used = omega arith in
      rw ((seven_reads file).complete 0 bs rest at w.number e, w.childless, w.kind_of_lem, w.id_of, w.empty, m, z)
  value_complete below rows below' cs used g (object t) kind zero own bs rest (inr w) at parent e = absurd (null_id readers w.target w.reader)
  value_complete below rows below' cs used g (object t) kind (suc i) own bs rest (inr w) at parent e =
      let u = w.target in
      let ib = w.number in
      let rb = w.value in
      let e₀ : drop at file ≡ (ib ++ rb) ++ rest = rw w.parts at e in
      let e₁ : drop at file ≡ ib ++ (rb ++ rest) = e₀ ∙ append_assoc ib rb rest in
      let e₂ : drop (at + length ib) file ≡ rb ++ rest = seam file at ib rb rest e₀ in
      let l : at + length bs ≡ at + length ib + length rb = omega (arith, ap length w.parts, length-append ib rb) in
      let v = head-invoked u own w.laid.plan w.laid.head w.laid.headed in
      rw ((seven_reads file).complete (suc i) ib (rb ++ rest) at w.numbered e₁, reader-complete readers (suc i) u w.reader v, serves-complete w.serves, l)
      (raw_complete below rows below' cs used g u kind own rb rest w.laid at (length bs) (at + length ib) parent (suc i) e₂ (omega arith))
  value_complete below rows below' cs used g (reference t) kind id own bs rest w at parent e =
      let m : at + length bs - at ≡ length bs = omega arith in
      let z : suc used + 0 ≡ suc used = omega arith in
      rw ((seven_reads file).complete id bs rest at w.number e, le-leb id shared w.named, w.childless, w.kind_of_lem, w.empty, m, z)
  value_complete below rows below' cs used g (leaf x) kind id own bs rest w at parent e =
      let m : at + length bs - at ≡ length bs = omega arith in
      let z : suc used + 0 ≡ suc used = omega arith in
      let k = leaf_kind_lem x kind own bs w.2 in
      rw ((leaf_reads file x).complete own bs rest at k.1 e, w.1, k.0, w.0, m, z)

  pub complete : (d : ℕ) (plan : Plan) (ts : Trees) (bs rest : List ℕ) (w : Lays readers (Within shared) plan ts bs) (at used parent : ℕ)
      → depth ts ≤ d → used + size ts ≤ room → drop at file ≡ bs ++ rest
      → sequence (λ x a u. walk file readers shared room d x a u parent) plan at used
      ≡ done (at + length bs) (used + size ts) (drafts_of readers (Within shared) plan ts bs w at used parent) ts
  unfolding Lays sequence noted_rows size depth walk check bind before told_of
  complete d stop none bs rest w at used parent hd hr e =
      let l : at + length bs ≡ at = omega (arith, ap length w) in
      let z : used + 0 ≡ used = omega arith in
      rw (l, z)
  complete d (put x go) none bs rest w at used parent hd hr e = absurd w
  complete d stop (tree k i own cs more) bs rest w at used parent hd hr e = absurd w
  complete zero (put x go) (tree k i own cs more) bs rest w at used parent hd hr e = absurd (omega arith)
  complete (suc d) (put x go) (tree k i own cs more) bs rest w at used parent hd hr e =
      let b₁ = w.0 in
      let b₂ = w.1 in
      let e₀ : drop at file ≡ (b₁ ++ b₂) ++ rest = rw w.2 at e in
      let e₁ : drop at file ≡ b₁ ++ (b₂ ++ rest) = e₀ ∙ append_assoc b₁ b₂ rest in
      let e₂ : drop (at + length b₁) file ≡ b₂ ++ rest = seam file at b₁ b₂ rest e₀ in
      let l : at + length bs ≡ at + length b₁ + length b₂ = omega (arith, ap length w.2, length-append b₁ b₂) in
      let n : suc used + size cs ≡ used + suc (size cs) = omega arith in
      let p : used + (suc (size cs) + size more) ≡ used + suc (size cs) + size more = omega arith in
      let hr' : used < room = omega arith in
      let hd' : depth cs ≤ d = omega arith in
      let v = value_complete (λ plan b. Lays readers (Within shared) plan cs b) (λ plan b v a u p. drafts_of readers (Within shared) plan cs b v a u p)
      (λ plan a u. sequence (λ y b v. walk file readers shared room d y b v (suc used)) plan a u) cs used
      (λ plan b rest' w' a q. complete d plan cs b rest' w' a (suc used) (suc used) hd' (omega arith) q)
      x k i own b₁ (b₂ ++ rest) w.3 at parent e₁ in
      rw (lt-ltb used room hr', v, n, complete (suc d) (go (told k own cs)) more b₂ rest w.4 (at + length b₁) (used + suc (size cs)) parent (omega arith) (omega arith) e₂, l, p)
