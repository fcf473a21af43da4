-- The figures of a file tree by its rows (02, Req 14): how many rows of a kind there are, and the bytes of texts and images. Assumes nothing.
use Rattle.std.specs.Prelude.{◌≡◌, Bool, true, cond}
use Rattle.std.proofs.Math.Path.{refl, sym, ap}
use Rattle.std.proofs.Common.{◌∙◌, inl, inr, arith}
use Rattle.std.proofs.Math.Bool.{false}
use mathlib.Core.List.{List, [], ◌∷◌, ◌++◌, map, map-append, append-nil}
use Prim.Native.Nat.{ℕ, zero, suc, ◌+◌, ◌-◌}
use Rattle.std.proofs.Math.Dec.{eqb}
use Rattle.std.proofs.Math.ListN.{length, drop, length-append}
use Rattle.layout.specs.EnumList.{EnumEntry}
use Rattle.layout.specs.Number.{little}
use Rattle.layout.specs.Text.{ascii}
use Rattle.layout.specs.Fixed.{sizes}
use Rattle.layout.specs.Target.{Target, fixed, char, string, object as anything, texture, texture_2d, sprite_font, page, index_buffer, vertex_declaration, vertex_buffer, model, mesh, enum, nullable, array, list, dictionary, kind_of, mesh_kind}
use Rattle.layout.specs.Tree.{Trees, none, tree, count, size, told}
use Rattle.layout.specs.Slot.{bone_field, code_field, uint_field, field_kind, Leaf, level, blob, numeric, Slot, raw, object, reference, leaf, Plan, stop, put}
use Rattle.layout.specs.Head.{Head}
use Rattle.layout.specs.Layout.{Leafed, Raw, Value, Lays}
use Rattle.layout.specs.Resource.{Resource}
use Rattle.layout.specs.File.{FileTree, shared_of, header, objects_plan, FileLays, file_rows}
use Rattle.layout.specs.Rows.{Row, row, raw_rows, value_rows, noted_rows, rows_of}
use Rattle.layout.specs.Shortest.{numbered}
use Rattle.reading.specs.Answer.{read}
use Rattle.reading.specs.Reads.{seam}
use Rattle.reading.specs.Seven.{seven_at}
use Rattle.reading.specs.Little.{length-little}
use Rattle.reading.specs.Rules.{null_id}
use Rattle.numbers.specs.Padded.{number_of, past}
use Rattle.places.specs.Places.{raw_place}
use Rattle.places.specs.Padding.{sized_not}
use Rattle.shortest.specs.Short.{Form, plain, text, raw_form, form_numbered}
use Rattle.shortest.specs.Places.{number_is, split}
use Rattle.pack_figures.specs.Figures.{Figure, files, loaded, text_bytes, image_bytes, refusals, rows, one, of_kind, bytes_of_kind, of_objects}

-- of a value: its kind and, for a text or an image level, how many own bytes it has
pub record Mark : Type 0 where
  pub kind : ℕ
  pub bytes : ℕ

abbrev pub mark : (kind bytes : ℕ) → Mark
mark kind bytes = record { kind = kind; bytes = bytes }

unfoldable pub measured : (kind : ℕ) (own : List ℕ) → ℕ
measured kind own = cond (eqb kind 13) (length own) (cond (eqb kind 35) (length own) 0)

-- those of all values of trees, in file order
unfoldable pub digest : Trees → List Mark
digest none = []
digest (tree kind id own cs rest) = mark kind (measured kind own) ∷ (digest cs ++ digest rest)

-- the same by a row: a text's count says how many bytes it has, and an image level has four bytes of size before its own
unfoldable pub row_bytes : (file : List ℕ) → Row → ℕ
row_bytes file r = cond (eqb r.kind 13) (number_of (seven_at file (raw_place file r.kind r.first r.detail))) (cond (eqb r.kind 35) (r.bytes - 4) 0)

abbrev pub mark_of : (file : List ℕ) → Row → Mark
mark_of file r = mark r.kind (row_bytes file r)

abbrev pub marks : (file : List ℕ) → List Row → List Mark
marks file rs = map (mark_of file) rs

-- no reader reads an image level
no_level : (t : Target) (own : List ℕ) (plan : Plan) (bs : List ℕ) → Head t own plan bs → eqb (kind_of t) 35 ≡ false
unfolding Head kind_of mesh_kind sizes
no_level (fixed k) own plan bs w = sized_not k 35 w.1.sized refl
no_level char own plan bs w = refl
no_level string own plan bs w = refl
no_level anything own plan bs w = refl
no_level (enum name z) own plan bs w = refl
no_level (nullable t) own plan bs w = refl
no_level (array t) own plan bs w = refl
no_level (list t) own plan bs w = refl
no_level (dictionary k v) own plan bs w = refl
no_level texture own plan bs w = refl
no_level texture_2d own plan bs w = refl
no_level sprite_font own plan bs w = refl
no_level page own plan bs w = refl
no_level (mesh index_buffer) own plan bs w = refl
no_level (mesh vertex_declaration) own plan bs w = refl
no_level (mesh vertex_buffer) own plan bs w = refl
no_level (mesh model) own plan bs w = refl

module _ (file : List ℕ) where
  -- a raw value, whose head stands at `at`
  raw_mark : {P : List ℕ → Type 0} {kind n : ℕ} {own head : List ℕ} → Form P kind own n head → eqb kind 35 ≡ false → (at first z c p id b : ℕ) (rest : List ℕ)
      → drop at file ≡ head ++ rest → raw_place file kind first id ≡ at → row_bytes file (row kind first z c p id b) ≡ measured kind own
  unfolding row_bytes measured number_of
  raw_mark (plain m q e w) k at first z c p id b rest d r = rw (q, k)
  raw_mark {own = own} {head = head} (text q nb s e f) k at first z c p id b rest d r =
      let y = split file at head nb own rest e d in
      let x : seven_at file at ≡ read (length own) (at + length nb) = number_is file (length own) at nb (own ++ rest) s y.0 in
      let v : raw_place file 13 first id ≡ at = rw q at r in
      rw (q, v, x)

  -- where a raw value starts: at its row's first byte, or behind the type id
  raw_place_lem : (kind at : ℕ) → numbered kind 0 ≡ false → raw_place file kind at 0 ≡ at
  unfolding raw_place
  raw_place_lem kind at e = rw e

  object_place : (kind i at n end : ℕ) → seven_at file at ≡ read n end → raw_place file kind at (suc i) ≡ end
  unfolding raw_place numbered past
  object_place kind i at n end e = rw e

  leaf_mark : (x : Leaf) (kind : ℕ) (own bs : List ℕ) → Leafed x kind own bs → (at c p b : ℕ) → row_bytes file (row kind at (length bs) c p 0 b) ≡ measured kind own
  unfolding Leafed field_kind row_bytes measured
  leaf_mark (level z) kind own bs w at c p b =
      let l : length bs - 4 ≡ length own = omega (arith, ap length w.3, length-append (little 4 z) own, length-little 4 z) in
      rw w.0 l
  leaf_mark (blob z) kind own bs w at c p b = rw w.0
  leaf_mark (numeric bone_field z rule) kind own bs w at c p b = rw w.0
  leaf_mark (numeric code_field z rule) kind own bs w at c p b = rw w.0
  leaf_mark (numeric uint_field z rule) kind own bs w at c p b = rw w.0

  module _ (readers : List Target) (refers : ℕ → ℕ → Type 0) (cs : Trees)
      (h : (plan : Plan) (b : List ℕ) (v : Lays readers refers plan cs b) (at n q : ℕ) (rest : List ℕ) → drop at file ≡ b ++ rest
      → marks file (rows_of readers refers plan cs b v at n q) ≡ digest cs) where
    abbrev Under : Plan → List ℕ → Type 0
    Under plan b = Lays readers refers plan cs b

    abbrev below : (plan : Plan) (b : List ℕ) → Under plan b → (at n q : ℕ) → List Row
    below plan b v at n q = rows_of readers refers plan cs b v at n q

    raw_marks : (t : Target) (kind : ℕ) (own bs : List ℕ) (w : Raw Under t kind own cs bs) (first z at n p id : ℕ) (rest : List ℕ) → drop at file ≡ bs ++ rest → raw_place file kind first id ≡ at
        → marks file (raw_rows (λ r. r) (λ t r. r) Under below t kind own cs bs w first z at n p id) ≡ mark kind (measured kind own) ∷ digest cs
    unfolding raw_rows
    raw_marks t kind own bs w first z at n p id rest d r =
        let c = split file at bs w.head w.children rest w.parts d in
        let k : eqb kind 35 ≡ false = rw w.kind_of_lem (no_level t own w.plan w.head w.headed) in
        let m = raw_mark (raw_form readers refers cs t kind own bs w) k at first z (count cs) p id (suc (size cs)) (w.children ++ rest) c.0 r in
        let g = h w.plan w.children w.laid (at + length w.head) (suc n) (suc n) rest c.1 in
        rw (m, g)

    value_marks : (x : Slot) (kind id : ℕ) (own bs : List ℕ) (w : Value readers refers Under x kind id own cs bs) (at n q : ℕ) (rest : List ℕ) → drop at file ≡ bs ++ rest
        → marks file (value_rows (λ r. r) (λ t r. r) readers refers Under below x kind id own cs bs w at n q) ≡ mark kind (measured kind own) ∷ digest cs
    unfolding Value value_rows digest row_bytes measured
    value_marks (raw t) kind id own bs w at n q rest d =
        raw_marks t kind own bs w.1 at (length bs) at n q 0 rest d (raw_place_lem kind at (form_numbered (raw_form readers refers cs t kind own bs w.1)))
    value_marks (object t) kind id own bs (inl w) at n q rest d = rw (w.kind_of_lem, w.childless)
    value_marks (object t) kind zero own bs (inr w) at n q rest d = absurd (null_id readers w.target w.reader)
    value_marks (object t) kind (suc i) own bs (inr w) at n q rest d =
        let c = split file at bs w.number w.value rest w.parts d in
        raw_marks w.target kind own w.value w.laid at (length bs) (at + length w.number) n q (suc i) rest c.1
        (object_place kind i at (suc i) (at + length w.number) (number_is file (suc i) at w.number (w.value ++ rest) w.numbered c.0))
    value_marks (reference t) kind id own bs w at n q rest d = rw (w.kind_of_lem, w.childless)
    value_marks (leaf x) kind id own bs w at n q rest d = rw (w.1, leaf_mark x kind own bs w.2 at 0 q 1)

  -- the rows of trees that stand in the file have the marks of the trees
  pub rows-marks : (readers : List Target) (refers : ℕ → ℕ → Type 0) (plan : Plan) (ts : Trees) (bs : List ℕ) (w : Lays readers refers plan ts bs) (at n q : ℕ) (rest : List ℕ)
      → drop at file ≡ bs ++ rest → marks file (rows_of readers refers plan ts bs w at n q) ≡ digest ts
  unfolding Lays noted_rows digest
  rows-marks readers refers stop none bs w at n q rest d = refl
  rows-marks readers refers (put x go) none bs w at n q rest d = absurd w
  rows-marks readers refers stop (tree k i own cs others) bs w at n q rest d = absurd w
  rows-marks readers refers (put x go) (tree k i own cs others) bs w at n q rest d =
      let c = split file at bs w.0 w.1 rest w.2 d in
      let v = value_marks readers refers cs (λ plan b v at n q rest d. rows-marks readers refers plan cs b v at n q rest d) x k i own w.0 w.3 at n q (w.1 ++ rest) c.0 in
      let r = rows-marks readers refers (go (told k own cs)) others w.1 w.4 (at + length w.0) (n + suc (size cs)) q rest c.1 in
      simp (map-append, v, r)

  -- the same of a file tree whose bytes the file is
  pub file_marks : (es : List EnumEntry) (ft : FileTree) (w : FileLays es ft file) → marks file (file_rows es ft file w) ≡ digest ft.objects
  unfolding file_rows header ascii little
  file_marks es ft w =
      let b : drop 10 file ≡ w.before ++ w.values = ap (drop 10) w.parts in
      let z : drop (10 + length w.before) file ≡ w.values ++ [] = seam file 10 w.before w.values [] (b ∙ sym (append-nil (w.before ++ w.values))) in
      rows-marks w.readers (Resource (shared_of ft.objects)) (objects_plan (count (shared_of ft.objects))) ft.objects w.values w.laid (10 + length w.before) 0 0 [] z

-- ---- The figures by marks

-- what every accepted file counts as
unfoldable pub of_accepted : Figure → ℕ
of_accepted files = 1
of_accepted loaded = 1
of_accepted text_bytes = 0
of_accepted image_bytes = 0
of_accepted (refusals n) = 0
of_accepted (rows k) = 0

-- what a value adds to it
unfoldable pub of_mark : Mark → Figure → ℕ
of_mark m files = 0
of_mark m loaded = 0
of_mark m text_bytes = cond (eqb m.kind 13) m.bytes 0
of_mark m image_bytes = cond (eqb m.kind 35) m.bytes 0
of_mark m (refusals n) = 0
of_mark m (rows k) = one (eqb m.kind k)

unfoldable pub of_marks : List Mark → Figure → ℕ
of_marks [] f = 0
of_marks (m ∷ ms) f = of_mark m f + of_marks ms f

marks-append : (a b : List Mark) (f : Figure) → of_marks (a ++ b) f ≡ of_marks a f + of_marks b f
unfolding of_marks
marks-append [] b f = omega arith
marks-append (m ∷ a) b f = omega (arith, marks-append a b f)

marks-none : (f : Figure) → ((m : Mark) → of_mark m f ≡ 0) → (ms : List Mark) → of_marks ms f ≡ 0
unfolding of_marks
marks-none f h [] = refl
marks-none f h (m ∷ ms) = omega (arith, h m, marks-none f h ms)

kinds-digest : (k : ℕ) (ts : Trees) → of_marks (digest ts) (rows k) ≡ of_kind k ts
unfolding digest of_marks of_mark of_kind
kinds-digest k none = refl
kinds-digest k (tree kind id own cs rest) = omega (arith, marks-append (digest cs) (digest rest) (rows k), kinds-digest k cs, kinds-digest k rest)

text_own : (kind : ℕ) (own : List ℕ) → cond (eqb kind 13) (measured kind own) 0 ≡ cond (eqb kind 13) (length own) 0
unfolding measured
text_own kind own = go (eqb kind 13) where
  go : (b : Bool) → cond b (cond b (length own) (cond (eqb kind 35) (length own) 0)) 0 ≡ cond b (length own) 0
  go true = refl
  go false = refl

image_own : (kind : ℕ) (own : List ℕ) → cond (eqb kind 35) (measured kind own) 0 ≡ cond (eqb kind 35) (length own) 0
unfolding measured
image_own kind own = go (eqb kind 13) (eqb kind 35) where
  go : (a b : Bool) → cond b (cond a (length own) (cond b (length own) 0)) 0 ≡ cond b (length own) 0
  go true true = refl
  go true false = refl
  go false true = refl
  go false false = refl

text-digest : (ts : Trees) → of_marks (digest ts) text_bytes ≡ bytes_of_kind 13 ts
unfolding digest of_marks of_mark bytes_of_kind
text-digest none = refl
text-digest (tree kind id own cs rest) = omega (arith, text_own kind own, marks-append (digest cs) (digest rest) text_bytes, text-digest cs, text-digest rest)

image_digest : (ts : Trees) → of_marks (digest ts) image_bytes ≡ bytes_of_kind 35 ts
unfolding digest of_marks of_mark bytes_of_kind
image_digest none = refl
image_digest (tree kind id own cs rest) = omega (arith, image_own kind own, marks-append (digest cs) (digest rest) image_bytes, image_digest cs, image_digest rest)

-- the figures of an accepted file are those of the marks of its objects
pub of_digest : (ts : Trees) (f : Figure) → of_objects ts f ≡ of_accepted f + of_marks (digest ts) f
unfolding of_objects of_accepted of_mark
of_digest ts files = omega (arith, marks-none files (λ m. refl) (digest ts))
of_digest ts loaded = omega (arith, marks-none loaded (λ m. refl) (digest ts))
of_digest ts text_bytes = omega (arith, text-digest ts)
of_digest ts image_bytes = omega (arith, image_digest ts)
of_digest ts (refusals n) = omega (arith, marks-none (refusals n) (λ m. refl) (digest ts))
of_digest ts (rows k) = omega (arith, kinds-digest k ts)
