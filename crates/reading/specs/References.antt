-- References over the rows: what the layout says of resources, the rows say too; the rows with no parent are those of the objects; and there is a row for each value. Assumes nothing.
use Rattle.std.specs.Prelude.{◌≡◌, Bool, true}
use Rattle.std.proofs.Math.Path.{refl, ap}
use mathlib.Core.List.{List, [], ◌∷◌, ◌++◌}
use Rattle.std.proofs.Common.{inl, arith}
use Rattle.std.proofs.Math.Logic.{inr}
use Prim.Native.Nat.{ℕ, zero, suc, ◌+◌, ◌*◌}
use Rattle.std.proofs.Math.ListN.{length}
use Rattle.layout.specs.Target.{Target}
use Rattle.layout.specs.Tree.{Trees, none, tree, count, size, told}
use Rattle.layout.specs.Slot.{Slot, raw, object, reference, leaf, Plan, stop, put, each}
use Rattle.layout.specs.Layout.{Raw, Value, Lays}
use Rattle.layout.specs.Rows.{row, words, flat, raw_rows, noted_rows, value_rows, Row, width}
use Rattle.reading.specs.Answer.{Answer, check, Ok, ok_check}
use Rattle.reading.specs.Resource.{kinds, suits}
pub use Rattle.reading.specs.Bounds.{rows-length}
use Rattle.reading.specs.File.{judged, root_kind, root_kinds}
use Rattle.reading.specs.Drafts.{Wants, nothing, resource, Draft, Below, raw_drafts, value_drafts, drafts_of}

-- what each row wants is kept
unfoldable pub Every : (Wants → ℕ → Bool) → List Draft → Type 0
Every p [] = Unit {0}
Every p (d ∷ rows) = (p d.wants d.row.detail ≡ true) × Every p rows

every_parts : (p : Wants → ℕ → Bool) (a b : List Draft) → Every p (a ++ b) → Every p a × Every p b
unfolding Every
every_parts p [] b h = (tt, h)
every_parts p (d ∷ a) b h = let r = every_parts p a b h.1 in ((h.0, r.0), r.1)

every_append : (p : Wants → ℕ → Bool) (a b : List Draft) → Every p a → Every p b → Every p (a ++ b)
unfolding Every
every_append p [] b h g = g
every_append p (d ∷ a) b h g = (h.0, every_append p a b h.1 g)

pub judged-complete : {A : Type 0} (shared : List ℕ) (rows : List Draft) (x : Answer A) → Every (suits shared) rows → judged shared rows x ≡ x
unfolding judged Every check
judged-complete shared [] x h = refl
judged-complete shared (d ∷ rows) x h = rw h.0 (judged-complete shared rows x h.1)

pub judged-sound : {A : Type 0} {Q : A → ℕ → Type 0} (shared : List ℕ) (rows : List Draft) (x : Answer A) → (Every (suits shared) rows → Ok Q x) → Ok Q (judged shared rows x)
unfolding judged Every
judged-sound shared [] x f = f tt
judged-sound shared (d ∷ rows) x f =
    ok_check (suits shared d.wants d.row.detail) 17 d.row.first _ (λ t. judged-sound shared rows x (λ h. f (t, h)))

-- a rule for references may be changed for another that follows from it and from what the rows keep
module _ (readers : List Target) (refers refers' : ℕ → ℕ → Type 0) (p : Wants → ℕ → Bool)
    (step : (wanted id : ℕ) → refers wanted id → p (resource wanted) id ≡ true → refers' wanted id) where
  abbrev Changes : (below below' : Plan → List ℕ → Type 0) → Below below → Below below' → Type 0
  Changes below below' rows rows' =
      (plan : Plan) (b : List ℕ) (v : below plan b) (at n parent : ℕ) → Every p (rows plan b v at n parent)
      → (v' : below' plan b) × (rows' plan b v' at n parent ≡ rows plan b v at n parent)

  raw_change : (below below' : Plan → List ℕ → Type 0) (rows : Below below) (rows' : Below below') → Changes below below' rows rows'
      → (t : Target) (kind : ℕ) (own : List ℕ) (cs : Trees) (bs : List ℕ) (w : Raw below t kind own cs bs) (first z at n parent id : ℕ)
      → Every p (raw_drafts below rows t kind own cs bs w first z at n parent id)
      → (w' : Raw below' t kind own cs bs)
      × (raw_drafts below' rows' t kind own cs bs w' first z at n parent id ≡ raw_drafts below rows t kind own cs bs w first z at n parent id)
  unfolding raw_rows Every
  raw_change below below' rows rows' h t kind own cs bs w first z at n parent id a =
      let g = h w.plan w.children w.laid (at + length w.head) (suc n) (suc n) a.1 in (
        record {
          kind_of_lem = w.kind_of_lem;
          font = w.font;
          plan = w.plan;
          head = w.head;
          children = w.children;
          parts = w.parts;
          headed = w.headed;
          laid = g.0;
        },
        rw g.1,
      )

  value_change : (below below' : Plan → List ℕ → Type 0) (rows : Below below) (rows' : Below below') → Changes below below' rows rows'
      → (x : Slot) (kind id : ℕ) (own : List ℕ) (cs : Trees) (bs : List ℕ) (w : Value readers refers below x kind id own cs bs) (at n parent : ℕ)
      → Every p (value_drafts readers refers below rows x kind id own cs bs w at n parent)
      → (w' : Value readers refers' below' x kind id own cs bs)
      × (value_drafts readers refers' below' rows' x kind id own cs bs w' at n parent ≡ value_drafts readers refers below rows x kind id own cs bs w at n parent)
  unfolding Value value_rows Every
  value_change below below' rows rows' h (raw t) kind id own cs bs w at n parent a =
      let g = raw_change below below' rows rows' h t kind own cs bs w.1 at (length bs) at n parent 0 a in ((w.0, g.0), g.1)
  value_change below below' rows rows' h (object t) kind id own cs bs (inl w) at n parent a = (inl w, refl)
  value_change below below' rows rows' h (object t) kind id own cs bs (inr w) at n parent a =
      let g = raw_change below below' rows rows' h w.target kind own cs w.value w.laid at (length bs) (at + length w.number) n parent id a in (
        inr (record {
          target = w.target;
          reader = w.reader;
          serves = w.serves;
          number = w.number;
          value = w.value;
          parts = w.parts;
          numbered = w.numbered;
          laid = g.0;
        }),
        g.1,
      )
  value_change below below' rows rows' h (reference t) kind id own cs bs w at n parent a =
      (record { kind_of_lem = w.kind_of_lem; empty = w.empty; childless = w.childless; named = step t id w.named a.0; number = w.number }, refl)
  value_change below below' rows rows' h (leaf x) kind id own cs bs w at n parent a = (w, refl)

  pub change : (plan : Plan) (ts : Trees) (bs : List ℕ) (w : Lays readers refers plan ts bs) (at n parent : ℕ) → Every p (drafts_of readers refers plan ts bs w at n parent)
      → (w' : Lays readers refers' plan ts bs) × (drafts_of readers refers' plan ts bs w' at n parent ≡ drafts_of readers refers plan ts bs w at n parent)
  unfolding Lays noted_rows
  change stop none bs w at n parent a = (w, refl)
  change (put x go) none bs w at n parent a = absurd w
  change stop (tree k i own cs rest) bs w at n parent a = absurd w
  change (put x go) (tree k i own cs rest) bs w at n parent a =
      let va = value_drafts readers refers (λ plan b. Lays readers refers plan cs b) (λ plan b v a n p. drafts_of readers refers plan cs b v a n p) x k i own cs w.0 w.3 at n parent in
      let ra = drafts_of readers refers (go (told k own cs)) rest w.1 w.4 (at + length w.0) (n + suc (size cs)) parent in
      let both = every_parts p va ra a in
      let v = value_change (λ plan b. Lays readers refers plan cs b) (λ plan b. Lays readers refers' plan cs b)
      (λ plan b v a n p. drafts_of readers refers plan cs b v a n p) (λ plan b v a n p. drafts_of readers refers' plan cs b v a n p)
      (λ plan b v a n p h. change plan cs b v a n p h) x k i own cs w.0 w.3 at n parent both.0 in
      let r = change (go (told k own cs)) rest w.1 w.4 (at + length w.0) (n + suc (size cs)) parent both.1 in
      ((w.0, w.1, w.2, v.0, r.0), rw (v.1, r.1))

-- what the rule for references says, the rows keep; other rows want nothing
module _ (readers : List Target) (refers : ℕ → ℕ → Type 0) (p : Wants → ℕ → Bool)
    (step : (wanted id : ℕ) → refers wanted id → p (resource wanted) id ≡ true) (free : (id : ℕ) → p nothing id ≡ true) where
  abbrev Keeps : (below : Plan → List ℕ → Type 0) → Below below → Type 0
  Keeps below rows = (plan : Plan) (b : List ℕ) (v : below plan b) (at n parent : ℕ) → Every p (rows plan b v at n parent)

  value_every : (below : Plan → List ℕ → Type 0) (rows : Below below) → Keeps below rows
      → (x : Slot) (kind id : ℕ) (own : List ℕ) (cs : Trees) (bs : List ℕ) (w : Value readers refers below x kind id own cs bs) (at n parent : ℕ)
      → Every p (value_drafts readers refers below rows x kind id own cs bs w at n parent)
  unfolding Value value_rows raw_rows Every
  value_every below rows h (raw t) kind id own cs bs w at n parent =
      let g = w.1 in (free 0, h g.plan g.children g.laid (at + length g.head) (suc n) (suc n))
  value_every below rows h (object t) kind id own cs bs (inl w) at n parent = (free 0, tt)
  value_every below rows h (object t) kind id own cs bs (inr w) at n parent =
      let g = w.laid in (free id, h g.plan g.children g.laid (at + length w.number + length g.head) (suc n) (suc n))
  value_every below rows h (reference t) kind id own cs bs w at n parent = (step t id w.named, tt)
  value_every below rows h (leaf x) kind id own cs bs w at n parent = (free 0, tt)

  pub every_row : (plan : Plan) (ts : Trees) (bs : List ℕ) (w : Lays readers refers plan ts bs) (at n parent : ℕ) → Every p (drafts_of readers refers plan ts bs w at n parent)
  unfolding Lays noted_rows Every
  every_row stop none bs w at n parent = tt
  every_row (put x go) none bs w at n parent = absurd w
  every_row stop (tree k i own cs rest) bs w at n parent = absurd w
  every_row (put x go) (tree k i own cs rest) bs w at n parent =
      every_append p (value_drafts readers refers (λ plan b. Lays readers refers plan cs b) (λ plan b v a n p. drafts_of readers refers plan cs b v a n p) x k i own cs w.0 w.3 at n parent)
      (drafts_of readers refers (go (told k own cs)) rest w.1 w.4 (at + length w.0) (n + suc (size cs)) parent)
      (value_every (λ plan b. Lays readers refers plan cs b) (λ plan b v a n p. drafts_of readers refers plan cs b v a n p) (λ plan b v a n q. every_row plan cs b v a n q) x k i own cs w.0 w.3 at n parent)
      (every_row (go (told k own cs)) rest w.1 w.4 (at + length w.0) (n + suc (size cs)) parent)

-- the words of rows
pub length-flat : (rows : List Row) → length (flat rows) ≡ width * length rows
unfolding flat words
length-flat [] = refl
length-flat (r ∷ rows) = omega (arith, length-flat rows)

-- the rows with no parent
pub roots-append : (a b : List Draft) → root_kinds (a ++ b) ≡ root_kinds a ++ root_kinds b
unfolding root_kinds root_kind
roots-append [] b = refl
roots-append (d ∷ a) b = go d.row.parent (roots-append a b) where
  go : (parent : ℕ) → root_kinds (a ++ b) ≡ root_kinds a ++ root_kinds b → root_kind parent d.row.kind (root_kinds (a ++ b)) ≡ root_kind parent d.row.kind (root_kinds a) ++ root_kinds b
  go zero e = ap (λ (l : List ℕ). d.row.kind ∷ l) e
  go (suc parent) e = e

module _ (readers : List Target) (refers : ℕ → ℕ → Type 0) where
  abbrev NoRoots : (below : Plan → List ℕ → Type 0) → Below below → Type 0
  NoRoots below rows = (plan : Plan) (b : List ℕ) (v : below plan b) (at n parent : ℕ) → root_kinds (rows plan b v at n (suc parent)) ≡ []

  value_roots : (below : Plan → List ℕ → Type 0) (rows : Below below) → NoRoots below rows
      → (x : Slot) (kind id : ℕ) (own : List ℕ) (cs : Trees) (bs : List ℕ) (w : Value readers refers below x kind id own cs bs) (at n parent : ℕ)
      → root_kinds (value_drafts readers refers below rows x kind id own cs bs w at n parent) ≡ root_kind parent kind []
  unfolding Value value_rows raw_rows root_kinds
  value_roots below rows h (raw t) kind id own cs bs w at n parent = let g = w.1 in rw (h g.plan g.children g.laid (at + length g.head) (suc n) n)
  value_roots below rows h (object t) kind id own cs bs (inl w) at n parent = rw w.kind_of_lem
  value_roots below rows h (object t) kind id own cs bs (inr w) at n parent =
      let g = w.laid in rw (h g.plan g.children g.laid (at + length w.number + length g.head) (suc n) n)
  value_roots below rows h (reference t) kind id own cs bs w at n parent = refl
  value_roots below rows h (leaf x) kind id own cs bs w at n parent = refl

  no_roots : (plan : Plan) (ts : Trees) (bs : List ℕ) (w : Lays readers refers plan ts bs) (at n parent : ℕ) → root_kinds (drafts_of readers refers plan ts bs w at n (suc parent)) ≡ []
  unfolding Lays noted_rows root_kinds root_kind
  no_roots stop none bs w at n parent = refl
  no_roots (put x go) none bs w at n parent = absurd w
  no_roots stop (tree k i own cs rest) bs w at n parent = absurd w
  no_roots (put x go) (tree k i own cs rest) bs w at n parent =
      rw (
        roots-append,
        value_roots (λ plan b. Lays readers refers plan cs b) (λ plan b v a n p. drafts_of readers refers plan cs b v a n p) (λ plan b v a n q. no_roots plan cs b v a n q) x k i own cs w.0 w.3 at n (suc parent),
        no_roots (go (told k own cs)) rest w.1 w.4 (at + length w.0) (n + suc (size cs)) parent,
      )

  -- the kinds of the rows with no parent are those of the trees
  pub roots_are : (plan : Plan) (ts : Trees) (bs : List ℕ) (w : Lays readers refers plan ts bs) (at n : ℕ) → root_kinds (drafts_of readers refers plan ts bs w at n 0) ≡ kinds ts
  unfolding Lays noted_rows root_kinds root_kind kinds
  roots_are stop none bs w at n = refl
  roots_are (put x go) none bs w at n = absurd w
  roots_are stop (tree k i own cs rest) bs w at n = absurd w
  roots_are (put x go) (tree k i own cs rest) bs w at n =
      rw (
        roots-append,
        value_roots (λ plan b. Lays readers refers plan cs b) (λ plan b v a n p. drafts_of readers refers plan cs b v a n p) (λ plan b v a n q. no_roots plan cs b v a n q) x k i own cs w.0 w.3 at n 0,
        roots_are (go (told k own cs)) rest w.1 w.4 (at + length w.0) (n + suc (size cs)),
      )

  -- slots and trees are as many
  pub slots-count : (slots : List Slot) (ts : Trees) (bs : List ℕ) → Lays readers refers (each slots) ts bs → count ts ≡ length slots
  unfolding Lays each count
  slots-count [] none bs w = refl
  slots-count [] (tree k i own cs rest) bs w = absurd w
  slots-count (x ∷ slots) none bs w = absurd w
  slots-count (x ∷ slots) (tree k i own cs rest) bs w = ap suc (slots-count slots rest w.1 w.4)
