-- Which rows name a resource: those of shared references, which have no children (01, "Each kind has a number .. 36 shared reference"). Assumes nothing.
use Rattle.std.specs.Prelude.{◌≡◌, refl, List, [], ◌∷◌, ◌++◌, get_or}
use Rattle.std.proofs.Common.{sym, ◌∙◌, inl, inr}
use Prim.Native.Nat.{ℕ, suc, ◌+◌, ◌<◌}
use native.Mathlib.Omega.{arith}
use Rattle.std.proofs.Math.ListN.{length}
use Rattle.layout.specs.Target.{Target, kind_of, fixed, char, string, object, texture, texture_2d, sprite_font, page, index_buffer, vertex_declaration, vertex_buffer, model, mesh, mesh_kind, enum, nullable, array, list, dictionary}
use Rattle.layout.specs.Tree.{Trees, none, tree, size, told}
use Rattle.layout.specs.Slot.{bone_field, code_field, uint_field, field_kind, Leaf, level, blob, numeric, Slot, raw, object, reference, leaf, Plan, stop, put}
use Rattle.layout.specs.Fixed.{sizes}
use Rattle.layout.specs.Head.{Head}
use Rattle.layout.specs.Layout.{Raw, Value, Lays, Leafed}
use Rattle.layout.specs.Rows.{raw_rows, value_rows, noted_rows}
use Rattle.reading.specs.Drafts.{Wants, nothing, resource, Draft, Below, raw_drafts, value_drafts, drafts_of}

-- a row wants a resource exactly if its kind is 36, and then it has no children
abbrev pub RowMarked : Wants → (kind children : ℕ) → Type 0
RowMarked nothing kind children = kind ≡ 36 → ⊥
RowMarked (resource wanted) kind children = (kind ≡ 36) × (children ≡ 0)

-- every row does so
unfoldable pub Marked : List Draft → Type 0
Marked [] = Unit {0}
Marked (d ∷ ds) = RowMarked d.wants d.row.kind d.row.children × Marked ds

marked_append : (a b : List Draft) → Marked a → Marked b → Marked (a ++ b)
unfolding Marked
marked_append [] b h g = g
marked_append (d ∷ a) b h g = (h.0, marked_append a b h.1 g)

-- no reader reads a shared reference
head_kind : (t : Target) (own : List ℕ) (plan : Plan) (bs : List ℕ) → Head t own plan bs → kind_of t ≡ 36 → ⊥
unfolding Head kind_of mesh_kind sizes
head_kind (fixed k) own plan bs h e = let s : 0 < get_or sizes 36 0 = rw e at h.1.sized in omega arith
head_kind char own plan bs h e = omega arith
head_kind string own plan bs h e = omega arith
head_kind object own plan bs h e = omega arith
head_kind (enum name z) own plan bs h e = omega arith
head_kind (nullable t) own plan bs h e = omega arith
head_kind (array t) own plan bs h e = omega arith
head_kind (list t) own plan bs h e = omega arith
head_kind (dictionary k v) own plan bs h e = omega arith
head_kind texture own plan bs h e = omega arith
head_kind texture_2d own plan bs h e = omega arith
head_kind sprite_font own plan bs h e = omega arith
head_kind page own plan bs h e = omega arith
head_kind (mesh index_buffer) own plan bs h e = omega arith
head_kind (mesh vertex_declaration) own plan bs h e = omega arith
head_kind (mesh vertex_buffer) own plan bs h e = omega arith
head_kind (mesh model) own plan bs h e = omega arith

module _ (readers : List Target) (refers : ℕ → ℕ → Type 0) where
  abbrev MarkedBelow : (below : Plan → List ℕ → Type 0) → Below below → Type 0
  MarkedBelow below rows = (plan : Plan) (b : List ℕ) (v : below plan b) (at n parent : ℕ) → Marked (rows plan b v at n parent)

  raw_marked : (below : Plan → List ℕ → Type 0) (rows : Below below) → MarkedBelow below rows
      → (t : Target) (kind : ℕ) (own : List ℕ) (cs : Trees) (bs : List ℕ) (w : Raw below t kind own cs bs) (first z at n parent id : ℕ)
      → Marked (raw_drafts below rows t kind own cs bs w first z at n parent id)
  unfolding raw_rows Marked
  raw_marked below rows h t kind own cs bs w first z at n parent id =
      (λ e. head_kind t own w.plan w.head w.headed (sym w.kind_of_lem ∙ e), h w.plan w.children w.laid (at + length w.head) (suc n) (suc n))

  leaf_kind_lem : (x : Leaf) (kind : ℕ) (own bs : List ℕ) → Leafed x kind own bs → kind ≡ 36 → ⊥
  unfolding Leafed field_kind
  leaf_kind_lem (level z) kind own bs w e = omega (arith, w.0)
  leaf_kind_lem (blob z) kind own bs w e = omega (arith, w.0)
  leaf_kind_lem (numeric bone_field z rule) kind own bs w e = omega (arith, w.0)
  leaf_kind_lem (numeric code_field z rule) kind own bs w e = omega (arith, w.0)
  leaf_kind_lem (numeric uint_field z rule) kind own bs w e = omega (arith, w.0)

  value_marked : (below : Plan → List ℕ → Type 0) (rows : Below below) → MarkedBelow below rows
      → (x : Slot) (kind id : ℕ) (own : List ℕ) (cs : Trees) (bs : List ℕ) (w : Value readers refers below x kind id own cs bs) (at n parent : ℕ)
      → Marked (value_drafts readers refers below rows x kind id own cs bs w at n parent)
  unfolding Value value_rows Marked
  value_marked below rows h (raw t) kind id own cs bs w at n parent = raw_marked below rows h t kind own cs bs w.1 at (length bs) at n parent 0
  value_marked below rows h (object t) kind id own cs bs (inl w) at n parent = (λ e. omega arith, tt)
  value_marked below rows h (object t) kind id own cs bs (inr w) at n parent =
      raw_marked below rows h w.target kind own cs w.value w.laid at (length bs) (at + length w.number) n parent id
  value_marked below rows h (reference t) kind id own cs bs w at n parent = ((w.kind_of_lem, refl), tt)
  value_marked below rows h (leaf x) kind id own cs bs w at n parent = (λ e. leaf_kind_lem x kind own bs w.2 e, tt)

  -- the rows of values that were laid out are marked
  pub marked-rows : (plan : Plan) (ts : Trees) (bs : List ℕ) (w : Lays readers refers plan ts bs) (at n parent : ℕ) → Marked (drafts_of readers refers plan ts bs w at n parent)
  unfolding Lays noted_rows Marked
  marked-rows stop none bs w at n parent = tt
  marked-rows (put x go) none bs w at n parent = absurd w
  marked-rows stop (tree k i own cs rest) bs w at n parent = absurd w
  marked-rows (put x go) (tree k i own cs rest) bs w at n parent =
      marked_append (value_drafts readers refers (λ plan b. Lays readers refers plan cs b) (λ plan b v a n p. drafts_of readers refers plan cs b v a n p) x k i own cs w.0 w.3 at n parent)
      (drafts_of readers refers (go (told k own cs)) rest w.1 w.4 (at + length w.0) (n + suc (size cs)) parent)
      (value_marked (λ plan b. Lays readers refers plan cs b) (λ plan b v a n p. drafts_of readers refers plan cs b v a n p) (λ plan b v a n q. marked-rows plan cs b v a n q) x k i own cs w.0 w.3 at n parent)
      (marked-rows (go (told k own cs)) rest w.1 w.4 (at + length w.0) (n + suc (size cs)) parent)
