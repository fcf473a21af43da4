-- Rows as the trees are that they are of: a row for each value, those below it behind it, then those of the next value. Assumes nothing.
use Rattle.std.specs.Prelude.{◌≡◌, false, take}
use Rattle.std.proofs.Math.Path.{refl, sym, ap}
use Rattle.std.proofs.Common.{◌∙◌, inl, inr, arith}
use mathlib.Core.List.{List, [], ◌∷◌, ◌++◌, append-nil}
use Prim.Native.Nat.{ℕ, zero, suc, ◌+◌}
use Rattle.std.proofs.Math.ListN.{length, drop}
use Rattle.std.proofs.Math.Seq.{take-append_seam}
use Rattle.std.proofs.lemmas.Bool.{eqb-false}
use Rattle.layout.specs.EnumList.{EnumEntry}
use Rattle.layout.specs.Number.{little}
use Rattle.layout.specs.Text.{ascii}
use Rattle.layout.specs.Fixed.{sizes}
use Rattle.layout.specs.Target.{Target, fixed, char, string, object as anything, texture, texture_2d, sprite_font, page, index_buffer, vertex_declaration, vertex_buffer, model, mesh, enum, nullable, array, list, dictionary, kind_of, mesh_kind}
use Rattle.layout.specs.Tree.{Trees, none, tree, count, size, told}
use Rattle.layout.specs.Slot.{bone_field, code_field, uint_field, field_kind, Leaf, level, blob, numeric, Slot, raw, object, reference, leaf, Plan, stop, put, each, page_slots}
use Rattle.layout.specs.Head.{Head}
use Rattle.layout.specs.Layout.{Leafed, Raw, Value, Lays}
use Rattle.layout.specs.Resource.{Resource}
use Rattle.layout.specs.File.{FileTree, shared_of, header, objects_plan, FileLays, file_rows}
use Rattle.layout.specs.Rows.{Row, row, raw_rows, value_rows, noted_rows, rows_of}
use Rattle.layout.specs.Shortest.{numbered}
use Rattle.reading.specs.Answer.{Answer, read}
use Rattle.reading.specs.Reads.{seam}
use Rattle.reading.specs.Seven.{seven_at}
use Rattle.reading.specs.Rules.{null_id}
use Rattle.reading.specs.References.{slots-count}
use Rattle.numbers.specs.Padded.{number_of, past}
use Rattle.places.specs.Places.{raw_place}
use Rattle.places.specs.Padding.{sized_not}
use Rattle.shortest.specs.Short.{Form, plain, text, raw_form, form_numbered}
use Rattle.shortest.specs.Places.{number_is, split}

-- the bytes behind a count at a place, as many as it says
unfoldable pub counted_text : (file : List ℕ) → Answer ℕ → (at : ℕ) → List ℕ
counted_text file x at = take (number_of x) (drop (past x at) file)

-- the text of a row of kind 13: behind the type id, if it has one, and the count
unfoldable pub text_of : (file : List ℕ) → Row → List ℕ
text_of file r = let at = raw_place file r.kind r.first r.detail in counted_text file (seven_at file at) at

-- the row of a value
pub record IsRow (file : List ℕ) (r : Row) (k i : ℕ) (own : List ℕ) (cs : Trees) : Type 0 where
  pub kind_is : r.kind ≡ k
  pub detail_is : r.detail ≡ i
  pub children_is : r.children ≡ count cs
  pub branch_is : r.branch ≡ suc (size cs)
  pub text_is : k ≡ 13 → text_of file r ≡ own
  pub page_is : k ≡ 34 → count cs ≡ 4

unfoldable pub Stand : (file : List ℕ) → Trees → List Row → Type 0
Stand file none rows = rows ≡ []
Stand file (tree k i own cs rest) rows =
    (r : Row) × (below : List Row) × (behind : List Row) × (rows ≡ r ∷ (below ++ behind)) × IsRow file r k i own cs × Stand file cs below × Stand file rest behind

-- a value's row before the rows below it
abbrev First : (file : List ℕ) (k i : ℕ) (own : List ℕ) (cs : Trees) (rows : List Row) → Type 0
First file k i own cs rows = (r : Row) × (below : List Row) × (rows ≡ r ∷ below) × IsRow file r k i own cs × Stand file cs below

-- only a page has its kind
pub page-plan : (t : Target) (own : List ℕ) (plan : Plan) (bs : List ℕ) → Head t own plan bs → kind_of t ≡ 34 → plan ≡ each page_slots
unfolding Head kind_of mesh_kind sizes
page-plan (fixed k) own plan bs w e = absurd (eqb-false k 34 (sized_not k 34 w.1.sized refl) e)
page-plan char own plan bs w e = absurd (omega arith)
page-plan string own plan bs w e = absurd (omega arith)
page-plan anything own plan bs w e = absurd w
page-plan (enum name z) own plan bs w e = absurd (omega arith)
page-plan (nullable t) own plan bs w e = absurd (omega arith)
page-plan (array t) own plan bs w e = absurd (omega arith)
page-plan (list t) own plan bs w e = absurd (omega arith)
page-plan (dictionary k v) own plan bs w e = absurd (omega arith)
page-plan texture own plan bs w e = absurd w
page-plan texture_2d own plan bs w e = absurd (omega arith)
page-plan sprite_font own plan bs w e = absurd (omega arith)
page-plan page own plan bs w e = w.2
page-plan (mesh index_buffer) own plan bs w e = absurd (omega arith)
page-plan (mesh vertex_declaration) own plan bs w e = absurd (omega arith)
page-plan (mesh vertex_buffer) own plan bs w e = absurd (omega arith)
page-plan (mesh model) own plan bs w e = absurd (omega arith)

pub leaf_other : (x : Leaf) (kind : ℕ) (own bs : List ℕ) → Leafed x kind own bs → (kind ≡ 13 → ⊥) × (kind ≡ 34 → ⊥)
unfolding Leafed field_kind
leaf_other (level z) kind own bs w = let e = w.0 in (λ q. omega arith, λ q. omega arith)
leaf_other (blob z) kind own bs w = let e = w.0 in (λ q. omega arith, λ q. omega arith)
leaf_other (numeric bone_field z rule) kind own bs w = let e = w.0 in (λ q. omega arith, λ q. omega arith)
leaf_other (numeric code_field z rule) kind own bs w = let e = w.0 in (λ q. omega arith, λ q. omega arith)
leaf_other (numeric uint_field z rule) kind own bs w = let e = w.0 in (λ q. omega arith, λ q. omega arith)

module _ (file : List ℕ) where
  -- the text of a raw value of kind 13, whose head stands at `at`
  raw_text : {P : List ℕ → Type 0} {kind n : ℕ} {own head : List ℕ} → Form P kind own n head → (at first z c p id b : ℕ) (rest : List ℕ)
      → drop at file ≡ head ++ rest → raw_place file kind first id ≡ at → kind ≡ 13 → text_of file (row kind first z c p id b) ≡ own
  unfolding text_of counted_text number_of past
  raw_text (plain m q e w) at first z c p id b rest d r k = absurd (eqb-false _ 13 q k)
  raw_text {own = own} {head = head} (text q nb s e f) at first z c p id b rest d r k =
      let y = split file at head nb own rest e d in
      let x : seven_at file at ≡ read (length own) (at + length nb) = number_is file (length own) at nb (own ++ rest) s y.0 in
      rw (r, x, y.1) (take-append_seam own rest)

  raw_place_lem : (kind at : ℕ) → numbered kind 0 ≡ false → raw_place file kind at 0 ≡ at
  unfolding raw_place
  raw_place_lem kind at e = rw e

  object_place : (kind i at n end : ℕ) → seven_at file at ≡ read n end → raw_place file kind at (suc i) ≡ end
  unfolding raw_place numbered past
  object_place kind i at n end e = rw e

  module _ (readers : List Target) (refers : ℕ → ℕ → Type 0) (cs : Trees)
      (h : (plan : Plan) (b : List ℕ) (v : Lays readers refers plan cs b) (at n q : ℕ) (rest : List ℕ) → drop at file ≡ b ++ rest
      → Stand file cs (rows_of readers refers plan cs b v at n q)) where
    abbrev Under : Plan → List ℕ → Type 0
    Under plan b = Lays readers refers plan cs b

    abbrev below : (plan : Plan) (b : List ℕ) → Under plan b → (at n q : ℕ) → List Row
    below plan b v at n q = rows_of readers refers plan cs b v at n q

    raw_stand : (t : Target) (kind : ℕ) (own bs : List ℕ) (w : Raw Under t kind own cs bs) (first z at n p id : ℕ) (rest : List ℕ) → drop at file ≡ bs ++ rest → raw_place file kind first id ≡ at
        → First file kind id own cs (raw_rows (λ r. r) (λ t r. r) Under below t kind own cs bs w first z at n p id)
    unfolding raw_rows page_slots
    raw_stand t kind own bs w first z at n p id rest d r =
        let c = split file at bs w.head w.children rest w.parts d in (
          row kind first z (count cs) p id (suc (size cs)),
          below w.plan w.children w.laid (at + length w.head) (suc n) (suc n),
          refl,
          record {
            kind_is = refl;
            detail_is = refl;
            children_is = refl;
            branch_is = refl;
            text_is = λ k. raw_text (raw_form readers refers cs t kind own bs w) at first z (count cs) p id (suc (size cs)) (w.children ++ rest) c.0 r k;
            page_is = λ k. slots-count readers refers page_slots cs w.children (rw (page-plan t own w.plan w.head w.headed (sym w.kind_of_lem ∙ k)) at w.laid);
          },
          h w.plan w.children w.laid (at + length w.head) (suc n) (suc n) rest c.1,
        )

    -- a value without children, neither a text nor a page
    bare_stand : (k i : ℕ) (own : List ℕ) (r : Row) → cs ≡ none → r.kind ≡ k → r.detail ≡ i → r.children ≡ 0 → r.branch ≡ 1 → (k ≡ 13 → ⊥) → (k ≡ 34 → ⊥)
        → First file k i own cs (r ∷ [])
    unfolding Stand count size
    bare_stand k i own r e a b c d t p = rw e (
      r,
      [],
      refl,
      record {
        kind_is = a;
        detail_is = b;
        children_is = c;
        branch_is = d;
        text_is = λ q. absurd (t q);
        page_is = λ q. absurd (p q);
      },
      refl,
    )

    value_stand : (x : Slot) (kind id : ℕ) (own bs : List ℕ) (w : Value readers refers Under x kind id own cs bs) (at n q : ℕ) (rest : List ℕ) → drop at file ≡ bs ++ rest
        → First file kind id own cs (value_rows (λ r. r) (λ t r. r) readers refers Under below x kind id own cs bs w at n q)
    unfolding Value value_rows
    value_stand (raw t) kind id own bs w at n q rest d =
        rw w.0 (raw_stand t kind own bs w.1 at (length bs) at n q 0 rest d (raw_place_lem kind at (form_numbered (raw_form readers refers cs t kind own bs w.1))))
    value_stand (object t) kind id own bs (inl w) at n q rest d =
        let e = w.kind_of_lem in
        bare_stand kind id own (row 0 at (length bs) 0 q 0 1) w.childless (sym w.kind_of_lem) (sym w.id_of) refl refl (λ k. omega arith) (λ k. omega arith)
    value_stand (object t) kind zero own bs (inr w) at n q rest d = absurd (null_id readers w.target w.reader)
    value_stand (object t) kind (suc i) own bs (inr w) at n q rest d =
        let c = split file at bs w.number w.value rest w.parts d in
        raw_stand w.target kind own w.value w.laid at (length bs) (at + length w.number) n q (suc i) rest c.1
        (object_place kind i at (suc i) (at + length w.number) (number_is file (suc i) at w.number (w.value ++ rest) w.numbered c.0))
    value_stand (reference t) kind id own bs w at n q rest d =
        let e = w.kind_of_lem in
        bare_stand kind id own (row kind at (length bs) 0 q id 1) w.childless refl refl refl refl (λ k. omega arith) (λ k. omega arith)
    value_stand (leaf x) kind id own bs w at n q rest d =
        let o = leaf_other x kind own bs w.2 in
        bare_stand kind id own (row kind at (length bs) 0 q 0 1) w.1 refl (sym w.0) refl refl o.0 o.1

  -- the rows of trees that stand in the file
  pub rows_stand : (readers : List Target) (refers : ℕ → ℕ → Type 0) (plan : Plan) (ts : Trees) (bs : List ℕ) (w : Lays readers refers plan ts bs) (at n q : ℕ) (rest : List ℕ)
      → drop at file ≡ bs ++ rest → Stand file ts (rows_of readers refers plan ts bs w at n q)
  unfolding Lays noted_rows Stand
  rows_stand readers refers stop none bs w at n q rest d = refl
  rows_stand readers refers (put x go) none bs w at n q rest d = absurd w
  rows_stand readers refers stop (tree k i own cs others) bs w at n q rest d = absurd w
  rows_stand readers refers (put x go) (tree k i own cs others) bs w at n q rest d =
      let c = split file at bs w.0 w.1 rest w.2 d in
      let v = value_stand readers refers cs (λ plan b v at n q rest d. rows_stand readers refers plan cs b v at n q rest d) x k i own w.0 w.3 at n q (w.1 ++ rest) c.0 in
      let r = rows_stand readers refers (go (told k own cs)) others w.1 w.4 (at + length w.0) (n + suc (size cs)) q rest c.1 in
      let behind = rows_of readers refers (go (told k own cs)) others w.1 w.4 (at + length w.0) (n + suc (size cs)) q in
      (v.0, v.1, behind, ap (λ (l : List Row). l ++ behind) v.2, v.3, v.4, r)

  -- the rows of a file tree whose bytes the file is
  pub file_stand : (es : List EnumEntry) (ft : FileTree) (w : FileLays es ft file) → Stand file ft.objects (file_rows es ft file w)
  unfolding file_rows header ascii little
  file_stand es ft w =
      let b : drop 10 file ≡ w.before ++ w.values = ap (drop 10) w.parts in
      let z : drop (10 + length w.before) file ≡ w.values ++ [] = seam file 10 w.before w.values [] (b ∙ sym (append-nil (w.before ++ w.values))) in
      rows_stand w.readers (Resource (shared_of ft.objects)) (objects_plan (count (shared_of ft.objects))) ft.objects w.values w.laid (10 + length w.before) 0 0 [] z
