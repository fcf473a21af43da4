-- Where what was read ends, and how many rows it took. Assumes nothing.
use Rattle.std.specs.Prelude.{◌≡◌, List, ◌++◌, drop}
use Rattle.std.proofs.Math.Path.{refl, ap}
use Rattle.std.proofs.Common.{◌∙◌, inl, inr, arith, length-append, length-drop}
use Prim.Native.Nat.{ℕ, suc, ◌+◌, ◌-◌, ◌≤◌}
use Rattle.std.proofs.Math.ListN.{length}
use Rattle.layout.specs.Target.{Target}
use Rattle.layout.specs.Tree.{Trees, none, tree, size, told, count}
use Rattle.layout.specs.Slot.{Slot, raw, object, reference, leaf, Plan, stop, put}
use Rattle.layout.specs.Layout.{Value, Lays}
use Rattle.layout.specs.Resource.{Within}
use Rattle.layout.specs.Rows.{raw_rows, noted_rows, value_rows}
use Rattle.reading.specs.Answer.{read}
use Rattle.reading.specs.Reads.{Small}
use Rattle.reading.specs.Walk.{Taken, sequence, walk}
use Rattle.reading.specs.Sound.{ReadValue}
use Rattle.reading.specs.Drafts.{Below, value_drafts, drafts_of}

module _ (readers : List Target) (refers : ℕ → ℕ → Type 0) where
  pub value-length : (below : Plan → List ℕ → Type 0) (rows : Below below) (cs : Trees) → ((plan : Plan) (b : List ℕ) (v : below plan b) (at n parent : ℕ) → length (rows plan b v at n parent) ≡ size cs)
      → (x : Slot) (kind id : ℕ) (own bs : List ℕ) (w : Value readers refers below x kind id own cs bs) (at n parent : ℕ)
      → length (value_drafts readers refers below rows x kind id own cs bs w at n parent) ≡ suc (size cs)
  unfolding Value value_rows raw_rows size
  value-length below rows cs h (raw t) kind id own bs w at n parent = let g = w.1 in ap suc (h g.plan g.children g.laid (at + length g.head) (suc n) (suc n))
  value-length below rows cs h (object t) kind id own bs (inl w) at n parent = rw w.childless
  value-length below rows cs h (object t) kind id own bs (inr w) at n parent =
      let g = w.laid in ap suc (h g.plan g.children g.laid (at + length w.number + length g.head) (suc n) (suc n))
  value-length below rows cs h (reference t) kind id own bs w at n parent = rw w.childless
  value-length below rows cs h (leaf x) kind id own bs w at n parent = rw w.1

  -- there is a row for each value; 01: "each tree in it is one row"
  pub rows-length : (plan : Plan) (ts : Trees) (bs : List ℕ) (w : Lays readers refers plan ts bs) (at n parent : ℕ) → length (drafts_of readers refers plan ts bs w at n parent) ≡ size ts
  unfolding Lays noted_rows size
  rows-length stop none bs w at n parent = refl
  rows-length (put x go) none bs w at n parent = absurd w
  rows-length stop (tree k i own cs rest) bs w at n parent = absurd w
  rows-length (put x go) (tree k i own cs rest) bs w at n parent =
      let v = value-length (λ plan b. Lays readers refers plan cs b) (λ plan b v a n p. drafts_of readers refers plan cs b v a n p) cs (λ plan b v a n q. rows-length plan cs b v a n q) x k i own w.0 w.3 at n parent in
      let r = rows-length (go (told k own cs)) rest w.1 w.4 (at + length w.0) (n + suc (size cs)) parent in
      rw (length-append, v, r)

-- what was read ends at or behind its start and inside the file, and took as many rows as it says, within the room
pub record Bounds (file : List ℕ) (room at used : ℕ) (a : Taken) (e : ℕ) : Type 0 where
  pub ahead : at ≤ e
  pub inside : at ≤ length file → e ≤ length file
  pub counted : a.0 ≡ used + length a.1
  pub fits : used ≤ room → a.0 ≤ room
