-- The rows of trees have the frames of the trees, so the rule of the seventh word holds of them. Assumes nothing.
use Rattle.std.specs.Prelude.{◌≡◌, List, ◌∷◌, map}
use Rattle.std.proofs.Math.Path.{refl}
use Rattle.std.proofs.lemmas.List.{map-append}
use Rattle.std.proofs.Common.{inl, inr}
use Prim.Native.Nat.{ℕ, suc, ◌+◌}
use Rattle.std.proofs.Math.ListN.{length}
use Rattle.layout.specs.Target.{Target}
use Rattle.layout.specs.Tree.{Trees, none, tree, count, size, told}
use Rattle.layout.specs.Slot.{Slot, raw, object, reference, leaf, Plan, stop, put}
use Rattle.layout.specs.Layout.{Value, Lays}
use Rattle.layout.specs.Rows as rows
use Rattle.layout.specs.Rows.{Row, raw_rows, value_rows, noted_rows, rows_of}
use Rattle.branches.specs.Frames.{Frame, frame, frames}

-- what the rule says of is three of a row's words
abbrev pub frame_of : Row → Frame
frame_of r = frame r.children r.parent r.branch

abbrev pub framed : List Row → List Frame
framed rs = map frame_of rs

module _ (readers : List Target) (refers : ℕ → ℕ → Type 0) where
  abbrev Below : (Plan → List ℕ → Type 0) → Type 0
  Below below = rows.Below {A = Row} (λ r. r) (λ t r. r) below

  value_framed : (below : Plan → List ℕ → Type 0) (lines : Below below) (cs : Trees) → ((plan : Plan) (b : List ℕ) (v : below plan b) (at n p : ℕ) → framed (lines plan b v at n p) ≡ frames cs n p)
      → (x : Slot) (kind id : ℕ) (own bs : List ℕ) (w : Value readers refers below x kind id own cs bs) (at n p : ℕ)
      → framed (value_rows (λ r. r) (λ t r. r) readers refers below lines x kind id own cs bs w at n p) ≡ frame (count cs) p (suc (size cs)) ∷ frames cs (suc n) (suc n)
  unfolding Value value_rows raw_rows frames count size
  value_framed below lines cs h (raw t) kind id own bs w at n p = let g = w.1 in rw (h g.plan g.children g.laid (at + length g.head) (suc n) (suc n))
  value_framed below lines cs h (object t) kind id own bs (inl w) at n p = rw w.childless
  value_framed below lines cs h (object t) kind id own bs (inr w) at n p =
      let g = w.laid in rw (h g.plan g.children g.laid (at + length w.number + length g.head) (suc n) (suc n))
  value_framed below lines cs h (reference t) kind id own bs w at n p = rw w.childless
  value_framed below lines cs h (leaf x) kind id own bs w at n p = rw w.1

  pub rows-framed : (plan : Plan) (ts : Trees) (bs : List ℕ) (w : Lays readers refers plan ts bs) (at n p : ℕ) → framed (rows_of readers refers plan ts bs w at n p) ≡ frames ts n p
  unfolding Lays noted_rows frames
  rows-framed stop none bs w at n p = refl
  rows-framed (put x go) none bs w at n p = absurd w
  rows-framed stop (tree k i own cs rest) bs w at n p = absurd w
  rows-framed (put x go) (tree k i own cs rest) bs w at n p =
      let v = value_framed (λ plan b. Lays readers refers plan cs b) (λ plan b v a n p. rows_of readers refers plan cs b v a n p) cs (λ plan b v a n q. rows-framed plan cs b v a n q) x k i own w.0 w.3 at n p in
      let r = rows-framed (go (told k own cs)) rest w.1 w.4 (at + length w.0) (n + suc (size cs)) p in
      simp (map-append, v, r)
