-- The rows of trees as they stand in their bytes (01, "The row table"). Assumes nothing.
use mathlib.Core.List.{List, [], ◌∷◌, ◌++◌}
use Rattle.std.proofs.Common.{inl, inr}
use Prim.Native.Nat.{ℕ, suc, ◌+◌}
use Rattle.std.proofs.Math.ListN.{length}
use Rattle.layout.specs.Target.{Target}
use Rattle.layout.specs.Tree.{Trees, none, tree, count, size, told}
use Rattle.layout.specs.Slot.{Slot, raw, object, reference, leaf, Plan, stop, put}
use Rattle.layout.specs.Layout.{Raw, Value, Lays}

-- 01: "Six make a row: kind; first byte; length; number of children; parent's row number plus 1, or 0; detail", and 02, Req 09: "Give each row a seventh word"
pub record Row : Type 0 where
  pub kind : ℕ
  pub first : ℕ
  -- the length, in bytes
  pub bytes : ℕ
  pub children : ℕ
  pub parent : ℕ
  pub detail : ℕ
  -- 02, Req 09: "how many rows the value has with all below it, itself included"
  pub branch : ℕ

abbrev pub row : (kind first bytes children parent detail branch : ℕ) → Row
row kind first bytes children parent detail branch =
    record { kind = kind; first = first; bytes = bytes; children = children; parent = parent; detail = detail; branch = branch }

-- how many words make a row
abbrev pub width : ℕ
width = 7

-- a row's words
unfoldable pub words : Row → List ℕ
words r = r.kind ∷ r.first ∷ r.bytes ∷ r.children ∷ r.parent ∷ r.detail ∷ r.branch ∷ []

-- 01: "Rows stand in file order, a value before all below it": the rows one after the other
unfoldable pub flat : List Row → List ℕ
flat [] = []
flat (r ∷ rs) = words r ++ flat rs

-- what is noted of each row: `of` of a value's row, `to k` of the row of a reference that wants a resource of kind k
module _ {A : Type 0} (of : Row → A) (to : ℕ → Row → A) where
  -- the rows of children, by where they begin, the number of their first row and their parent's row number plus 1
  abbrev pub Below : (Plan → List ℕ → Type 0) → Type 0
  Below below = (plan : Plan) (bs : List ℕ) → below plan bs → (at number parent : ℕ) → List A

  -- a raw value's row and those below it: the value begins at `at`, its row at `first`, and `z` is the row's length
  unfoldable pub raw_rows : (below : Plan → List ℕ → Type 0) → Below below → (t : Target) (kind : ℕ) (own : List ℕ) (cs : Trees) (bs : List ℕ)
      → Raw below t kind own cs bs → (first z at number parent id : ℕ) → List A
  raw_rows below rows t kind own cs bs w first z at number parent id =
      of (row kind first z (count cs) parent id (suc (size cs))) ∷ rows w.plan w.children w.laid (at + length w.head) (suc number) (suc number)

  -- 01: "First byte and length of an object include its type id. Detail is the type id of a non-null object, the resource id of a shared reference, else 0."
  unfoldable pub value_rows : (readers : List Target) (refers : ℕ → ℕ → Type 0) (below : Plan → List ℕ → Type 0) → Below below
      → (x : Slot) (kind id : ℕ) (own : List ℕ) (cs : Trees) (bs : List ℕ) → Value readers refers below x kind id own cs bs → (at number parent : ℕ) → List A
  unfolding Value
  value_rows readers refers below rows (raw t) kind id own cs bs w at number parent = raw_rows below rows t kind own cs bs w.1 at (length bs) at number parent 0
  value_rows readers refers below rows (object t) kind id own cs bs (inl w) at number parent = of (row 0 at (length bs) 0 parent 0 1) ∷ []
  value_rows readers refers below rows (object t) kind id own cs bs (inr w) at number parent =
      raw_rows below rows w.target kind own cs w.value w.laid at (length bs) (at + length w.number) number parent id
  value_rows readers refers below rows (reference wanted) kind id own cs bs w at number parent = to wanted (row kind at (length bs) 0 parent id 1) ∷ []
  value_rows readers refers below rows (leaf x) kind id own cs bs w at number parent = of (row kind at (length bs) 0 parent 0 1) ∷ []

  -- the rows of trees that begin at a byte: a row for each value, in file order
  unfoldable pub noted_rows : (readers : List Target) (refers : ℕ → ℕ → Type 0) (plan : Plan) (ts : Trees) (bs : List ℕ)
      → Lays readers refers plan ts bs → (at number parent : ℕ) → List A
  unfolding Lays
  noted_rows readers refers stop none bs w at number parent = []
  noted_rows readers refers (put x go) none bs w at number parent = absurd w
  noted_rows readers refers stop (tree k i own cs rest) bs w at number parent = absurd w
  noted_rows readers refers (put x go) (tree k i own cs rest) bs w at number parent =
      value_rows readers refers (λ plan b. Lays readers refers plan cs b) (λ plan b v a n p. noted_rows readers refers plan cs b v a n p) x k i own cs w.0 w.3 at number parent
      ++ noted_rows readers refers (go (told k own cs)) rest w.1 w.4 (at + length w.0) (number + suc (size cs)) parent

-- the rows themselves
abbrev pub rows_of : (readers : List Target) (refers : ℕ → ℕ → Type 0) (plan : Plan) (ts : Trees) (bs : List ℕ)
    → Lays readers refers plan ts bs → (at number parent : ℕ) → List Row
rows_of = noted_rows (λ r. r) (λ t r. r)
