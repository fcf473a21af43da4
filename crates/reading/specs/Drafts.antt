-- Rows as reading has them until every resource is known: beside a row, what its value wants of the resource that it names. Assumes nothing.
use Rattle.std.specs.Prelude.{◌≡◌, List, [], ◌∷◌, map}
use Rattle.std.proofs.Math.Path.{refl}
use Rattle.std.proofs.Common.{ap, inl, inr}
use Rattle.std.proofs.lemmas.List.{map-append}
use Prim.Native.Nat.{ℕ, suc, ◌+◌}
use Rattle.std.proofs.Math.ListN.{length}
use Rattle.layout.specs.Target.{Target}
use Rattle.layout.specs.Tree.{Trees, none, tree, size, told}
use Rattle.layout.specs.Slot.{Slot, raw, object, reference, leaf, Plan, stop, put}
use Rattle.layout.specs.Layout.{Raw, Value, Lays}
use Rattle.layout.specs.Rows as rows
use Rattle.layout.specs.Rows.{Row, raw_rows, value_rows, noted_rows, rows_of}

-- what a value wants of the resource that it names: a reference wants a kind
pub data Wants : Type 0 where
  nothing : Wants
  resource : (kind : ℕ) → Wants

pub record Draft : Type 0 where
  pub row : Row
  pub wants : Wants

-- a value's row, and the row of a reference that wants a resource of a kind
abbrev pub drafted : Row → Draft
drafted r = record { row = r; wants = nothing }

abbrev pub wanting : ℕ → Row → Draft
wanting kind r = record { row = r; wants = resource kind }

-- the rows without what they want
abbrev pub bare : List Draft → List Row
bare ds = map (λ (d : Draft). d.row) ds

pub length-bare : (ds : List Draft) → length (bare ds) ≡ length ds
length-bare [] = refl
length-bare (d ∷ ds) = ap suc (length-bare ds)

-- the drafts of trees, as the layout has their rows
abbrev pub Below : (Plan → List ℕ → Type 0) → Type 0
Below below = rows.Below drafted wanting below

abbrev pub raw_drafts : (below : Plan → List ℕ → Type 0) → Below below → (t : Target) (kind : ℕ) (own : List ℕ) (cs : Trees) (bs : List ℕ)
    → Raw below t kind own cs bs → (first z at number parent id : ℕ) → List Draft
raw_drafts = raw_rows drafted wanting

abbrev pub value_drafts : (readers : List Target) (refers : ℕ → ℕ → Type 0) (below : Plan → List ℕ → Type 0) → Below below
    → (x : Slot) (kind id : ℕ) (own : List ℕ) (cs : Trees) (bs : List ℕ) → Value readers refers below x kind id own cs bs → (at number parent : ℕ) → List Draft
value_drafts = value_rows drafted wanting

abbrev pub drafts_of : (readers : List Target) (refers : ℕ → ℕ → Type 0) (plan : Plan) (ts : Trees) (bs : List ℕ)
    → Lays readers refers plan ts bs → (at number parent : ℕ) → List Draft
drafts_of = noted_rows drafted wanting

-- the drafts of trees, without what they want, are their rows
module _ (readers : List Target) (refers : ℕ → ℕ → Type 0) where
  raw_bare : (below : Plan → List ℕ → Type 0) (drafts : Below below) (lines : rows.Below {A = Row} (λ r. r) (λ t r. r) below)
      → ((plan : Plan) (b : List ℕ) (v : below plan b) (at n parent : ℕ) → bare (drafts plan b v at n parent) ≡ lines plan b v at n parent)
      → (t : Target) (kind : ℕ) (own : List ℕ) (cs : Trees) (bs : List ℕ) (w : Raw below t kind own cs bs) (first z at n parent id : ℕ)
      → bare (raw_drafts below drafts t kind own cs bs w first z at n parent id) ≡ raw_rows (λ r. r) (λ t r. r) below lines t kind own cs bs w first z at n parent id
  unfolding raw_rows
  raw_bare below drafts lines h t kind own cs bs w first z at n parent id = rw (h w.plan w.children w.laid (at + length w.head) (suc n) (suc n))

  value_bare : (below : Plan → List ℕ → Type 0) (drafts : Below below) (lines : rows.Below {A = Row} (λ r. r) (λ t r. r) below)
      → ((plan : Plan) (b : List ℕ) (v : below plan b) (at n parent : ℕ) → bare (drafts plan b v at n parent) ≡ lines plan b v at n parent)
      → (x : Slot) (kind id : ℕ) (own : List ℕ) (cs : Trees) (bs : List ℕ) (w : Value readers refers below x kind id own cs bs) (at n parent : ℕ)
      → bare (value_drafts readers refers below drafts x kind id own cs bs w at n parent) ≡ value_rows (λ r. r) (λ t r. r) readers refers below lines x kind id own cs bs w at n parent
  unfolding Value value_rows
  value_bare below drafts lines h (raw t) kind id own cs bs w at n parent = raw_bare below drafts lines h t kind own cs bs w.1 at (length bs) at n parent 0
  value_bare below drafts lines h (object t) kind id own cs bs (inl w) at n parent = refl
  value_bare below drafts lines h (object t) kind id own cs bs (inr w) at n parent =
      raw_bare below drafts lines h w.target kind own cs w.value w.laid at (length bs) (at + length w.number) n parent id
  value_bare below drafts lines h (reference t) kind id own cs bs w at n parent = refl
  value_bare below drafts lines h (leaf x) kind id own cs bs w at n parent = refl

  pub drafts-bare : (ts : Trees) (plan : Plan) (bs : List ℕ) (w : Lays readers refers plan ts bs) (at n parent : ℕ)
      → bare (drafts_of readers refers plan ts bs w at n parent) ≡ rows_of readers refers plan ts bs w at n parent
  unfolding Lays noted_rows
  drafts-bare none stop bs w at n parent = refl
  drafts-bare none (put x go) bs w at n parent = absurd w
  drafts-bare (tree k i own cs rest) stop bs w at n parent = absurd w
  drafts-bare (tree k i own cs rest) (put x go) bs w at n parent =
      let v = value_bare (λ plan b. Lays readers refers plan cs b) (λ plan b v a n p. drafts_of readers refers plan cs b v a n p) (λ plan b v a n p. rows_of readers refers plan cs b v a n p)
      (λ plan b v a n q. drafts-bare cs plan b v a n q) x k i own cs w.0 w.3 at n parent in
      let r = drafts-bare rest (go (told k own cs)) w.1 w.4 (at + length w.0) (n + suc (size cs)) parent in
      simp (map-append, v, r)
