-- Pages have four children and nothing below them, and the rows of values stand in the order of their first bytes. Assumes nothing.
use Rattle.std.specs.Prelude.{◌≡◌, List, [], ◌∷◌, ◌++◌, ℕ, suc, ◌+◌, ◌≤◌}
use Rattle.std.proofs.Math.Path.{refl, ap}
use Rattle.std.proofs.Common.{sym, ◌∙◌, inl, inr}
use native.Mathlib.Omega.{arith}
use Rattle.std.proofs.Math.ListN.{length, length-append}
use Rattle.layout.specs.EnumList.{EnumEntry}
use Rattle.layout.specs.Target.{Target, fixed, string, Serves, same}
use Rattle.layout.specs.Tree.{Trees, none, tree, count, size, told}
use Rattle.layout.specs.Slot.{Slot, raw, object, reference, leaf, Plan, stop, put, each, page_slots}
use Rattle.layout.specs.Head.{Head}
use Rattle.layout.specs.Layout.{Raw, Value, Lays}
use Rattle.layout.specs.Resource.{Resource}
use Rattle.layout.specs.Rows.{Row, raw_rows, value_rows, noted_rows, rows_of}
use Rattle.layout.specs.File.{FileTree, shared_of, objects_plan, FileLays, file_rows}
use Rattle.profile.specs.Profile.{Saying, Every}
use Rattle.profile.specs.Stand.{page-plan, leaf_other}

-- ---- Pages

abbrev pub Flat : Saying
Flat kind id own cs = kind ≡ 34 → size cs ≡ 4

module _ (readers : List Target) (refers : ℕ → ℕ → Type 0) where
  stop-none : (plan : Plan) (cs : Trees) (b : List ℕ) → plan ≡ stop → Lays readers refers plan cs b → cs ≡ none
  unfolding Lays
  stop-none plan cs b e w = go cs (rw e at w) where
    go : (cs : Trees) → Lays readers refers stop cs b → cs ≡ none
    go none w = refl
    go (tree k i own cs rest) w = absurd w

  served : (t : Target) → Serves string t → t ≡ string
  served t same = refl

  -- a string that stands as an object, a rectangle that stands raw, and a reference have no children
  string_none : (k i : ℕ) (own : List ℕ) (cs : Trees) (b : List ℕ) → Value readers refers (λ plan b. Lays readers refers plan cs b) (object string) k i own cs b → cs ≡ none
  unfolding Value Head
  string_none k i own cs b (inl w) = w.childless
  string_none k i own cs b (inr w) =
      let t = served w.target w.serves in
      let h : Head string own w.laid.plan w.laid.head = rw t at w.laid.headed in
      stop-none w.laid.plan cs w.laid.children h.1 w.laid.laid

  fixed-none : (n k i : ℕ) (own : List ℕ) (cs : Trees) (b : List ℕ) → Value readers refers (λ plan b. Lays readers refers plan cs b) (raw (fixed n)) k i own cs b → cs ≡ none
  unfolding Value Head
  fixed-none n k i own cs b w = stop-none w.1.plan cs w.1.children w.1.headed.2 w.1.laid

  reference_none : (n k i : ℕ) (own : List ℕ) (cs : Trees) (b : List ℕ) → Value readers refers (λ plan b. Lays readers refers plan cs b) (reference n) k i own cs b → cs ≡ none
  unfolding Value
  reference_none n k i own cs b w = w.childless

  page_size : (cs : Trees) (b : List ℕ) → Lays readers refers (each page_slots) cs b → size cs ≡ 4
  unfolding Lays each page_slots size
  page_size none b w = absurd w
  page_size (tree k₁ i₁ o₁ c₁ none) b w = absurd w.4
  page_size (tree k₁ i₁ o₁ c₁ (tree k₂ i₂ o₂ c₂ none)) b w = absurd w.4.4
  page_size (tree k₁ i₁ o₁ c₁ (tree k₂ i₂ o₂ c₂ (tree k₃ i₃ o₃ c₃ none))) b w = absurd w.4.4.4
  page_size (tree k₁ i₁ o₁ c₁ (tree k₂ i₂ o₂ c₂ (tree k₃ i₃ o₃ c₃ (tree k₄ i₄ o₄ c₄ (tree k₅ i₅ o₅ c₅ rest))))) b w = absurd w.4.4.4.4
  page_size (tree k₁ i₁ o₁ c₁ (tree k₂ i₂ o₂ c₂ (tree k₃ i₃ o₃ c₃ (tree k₄ i₄ o₄ c₄ none)))) b w =
      let a = ap size (string_none k₁ i₁ o₁ c₁ w.0 w.3) in
      let b = ap size (fixed-none 30 k₂ i₂ o₂ c₂ w.4.0 w.4.3) in
      let c = ap size (reference_none _ k₃ i₃ o₃ c₃ w.4.4.0 w.4.4.3) in
      let d = ap size (reference_none _ k₄ i₄ o₄ c₄ w.4.4.4.0 w.4.4.4.3) in
      omega arith

  module _ (cs : Trees) where
    abbrev Under : Plan → List ℕ → Type 0
    Under plan b = Lays readers refers plan cs b

    raw_flat : (t : Target) (kind : ℕ) (own bs : List ℕ) → Raw Under t kind own cs bs → kind ≡ 34 → size cs ≡ 4
    raw_flat t kind own bs w k = page_size cs w.children (rw (page-plan t own w.plan w.head w.headed (sym w.kind_of_lem ∙ k)) at w.laid)

    value_flat : (x : Slot) (kind id : ℕ) (own bs : List ℕ) → Value readers refers Under x kind id own cs bs → kind ≡ 34 → size cs ≡ 4
    unfolding Value
    value_flat (raw t) kind id own bs w k = raw_flat t kind own bs w.1 k
    value_flat (object t) kind id own bs (inl w) k = let e = w.kind_of_lem in absurd (omega arith)
    value_flat (object t) kind id own bs (inr w) k = raw_flat w.target kind own w.value w.laid k
    value_flat (reference t) kind id own bs w k = let e = w.kind_of_lem in absurd (omega arith)
    value_flat (leaf x) kind id own bs w k = absurd ((leaf_other x kind own bs w.2).1 k)

    no_children : cs ≡ none → Every Flat cs
    unfolding Every
    no_children e = rw e tt

    below_flat : ((plan : Plan) (b : List ℕ) → Under plan b → Every Flat cs) → (x : Slot) (kind id : ℕ) (own bs : List ℕ) → Value readers refers Under x kind id own cs bs → Every Flat cs
    unfolding Value
    below_flat h (raw t) kind id own bs w = h w.1.plan w.1.children w.1.laid
    below_flat h (object t) kind id own bs (inl w) = no_children w.childless
    below_flat h (object t) kind id own bs (inr w) = h w.laid.plan w.laid.children w.laid.laid
    below_flat h (reference t) kind id own bs w = no_children w.childless
    below_flat h (leaf x) kind id own bs w = no_children w.1

  pub pages_flat : (plan : Plan) (ts : Trees) (bs : List ℕ) → Lays readers refers plan ts bs → Every Flat ts
  unfolding Lays Every
  pages_flat stop none bs w = tt
  pages_flat (put x go) none bs w = absurd w
  pages_flat stop (tree k i own cs rest) bs w = absurd w
  pages_flat (put x go) (tree k i own cs rest) bs w =
      (value_flat cs x k i own w.0 w.3, below_flat cs (λ plan b v. pages_flat plan cs b v) x k i own w.0 w.3, pages_flat (go (told k own cs)) rest w.1 w.4)

-- ---- Rows

-- first bytes rise from a place to another
unfoldable pub RowsRise : (from to : ℕ) → List Row → Type 0
RowsRise from to [] = from ≤ to
RowsRise from to (r ∷ rows) = (from ≤ r.first) × RowsRise r.first to rows

rise_before : (a b c : ℕ) (rows : List Row) → a ≤ b → RowsRise b c rows → RowsRise a c rows
unfolding RowsRise
rise_before a b c [] h r = omega arith
rise_before a b c (x ∷ rows) h r = ((let y = r.0 in omega arith), r.1)

rise_append : (a b c : ℕ) (x y : List Row) → RowsRise a b x → RowsRise b c y → RowsRise a c (x ++ y)
unfolding RowsRise
rise_append a b c [] y r s = rise_before a b c y r s
rise_append a b c (q ∷ x) y r s = (r.0, rise_append q.first b c x y r.1 s)

module _ (readers : List Target) (refers : ℕ → ℕ → Type 0) where
  module _ (cs : Trees) (h : (plan : Plan) (b : List ℕ) (v : Lays readers refers plan cs b) (at n q : ℕ) → RowsRise at (at + length b) (rows_of readers refers plan cs b v at n q)) where
    abbrev Within : Plan → List ℕ → Type 0
    Within plan b = Lays readers refers plan cs b

    abbrev below : (plan : Plan) (b : List ℕ) → Within plan b → (at n q : ℕ) → List Row
    below plan b v at n q = rows_of readers refers plan cs b v at n q

    raw_rise : (t : Target) (kind : ℕ) (own bs : List ℕ) (w : Raw Within t kind own cs bs) (first z at n p id : ℕ) → first ≤ at
        → RowsRise first (at + length bs) (raw_rows (λ r. r) (λ t r. r) Within below t kind own cs bs w first z at n p id)
    unfolding raw_rows RowsRise
    raw_rise t kind own bs w first z at n p id l =
        let e : at + length bs ≡ at + length w.head + length w.children = omega (arith, ap length w.parts, length-append w.head w.children) in (
          omega arith,
          rw e (rise_before first (at + length w.head) (at + length w.head + length w.children) (below w.plan w.children w.laid (at + length w.head) (suc n) (suc n)) (omega arith)
              (h w.plan w.children w.laid (at + length w.head) (suc n) (suc n))),
        )

    value_rise : (x : Slot) (kind id : ℕ) (own bs : List ℕ) (w : Value readers refers Within x kind id own cs bs) (at n q : ℕ)
        → RowsRise at (at + length bs) (value_rows (λ r. r) (λ t r. r) readers refers Within below x kind id own cs bs w at n q)
    unfolding Value value_rows RowsRise
    value_rise (raw t) kind id own bs w at n q = raw_rise t kind own bs w.1 at (length bs) at n q 0 (omega arith)
    value_rise (object t) kind id own bs (inl w) at n q = (omega arith, omega arith)
    value_rise (object t) kind id own bs (inr w) at n q =
        let e : at + length bs ≡ at + length w.number + length w.value = omega (arith, ap length w.parts, length-append w.number w.value) in
        rw e (raw_rise w.target kind own w.value w.laid at (length bs) (at + length w.number) n q id (omega arith))
    value_rise (reference t) kind id own bs w at n q = (omega arith, omega arith)
    value_rise (leaf x) kind id own bs w at n q = (omega arith, omega arith)

rows_rise : (readers : List Target) (refers : ℕ → ℕ → Type 0) (ts : Trees) (plan : Plan) (bs : List ℕ) (w : Lays readers refers plan ts bs) (at n q : ℕ)
    → RowsRise at (at + length bs) (rows_of readers refers plan ts bs w at n q)
unfolding Lays noted_rows RowsRise
rows_rise readers refers none stop bs w at n q = omega arith
rows_rise readers refers none (put x go) bs w at n q = absurd w
rows_rise readers refers (tree k i own cs rest) stop bs w at n q = absurd w
rows_rise readers refers (tree k i own cs rest) (put x go) bs w at n q =
    let e : at + length bs ≡ at + length w.0 + length w.1 = omega (arith, ap length w.2, length-append w.0 w.1) in
    let v = value_rise readers refers cs (λ plan b v at n q. rows_rise readers refers cs plan b v at n q) x k i own w.0 w.3 at n q in
    let r = rows_rise readers refers rest (go (told k own cs)) w.1 w.4 (at + length w.0) (n + suc (size cs)) q in
    rw e (rise_append at (at + length w.0) (at + length w.0 + length w.1)
    (value_rows (λ r. r) (λ t r. r) readers refers (λ plan b. Lays readers refers plan cs b) (λ plan b v a n p. rows_of readers refers plan cs b v a n p) x k i own cs w.0 w.3 at n q)
    (rows_of readers refers (go (told k own cs)) rest w.1 w.4 (at + length w.0) (n + suc (size cs)) q) v r)

-- of a file
module _ (es : List EnumEntry) (ft : FileTree) (file : List ℕ) (w : FileLays es ft file) where
  pub file_flat : Every Flat ft.objects
  file_flat = pages_flat w.readers (Resource (shared_of ft.objects)) (objects_plan (count (shared_of ft.objects))) ft.objects w.values w.laid

  pub file_rise : RowsRise (10 + length w.before) (10 + length w.before + length w.values) (file_rows es ft file w)
  unfolding file_rows
  file_rise = rows_rise w.readers (Resource (shared_of ft.objects)) ft.objects (objects_plan (count (shared_of ft.objects))) w.values w.laid (10 + length w.before) 0 0
