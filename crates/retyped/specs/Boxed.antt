-- A String never stands raw in a file whose reader names keep the rules: it is an object, so its row has a type id. Assumes nothing.
use Rattle.std.specs.Prelude.{◌≡◌, refl, Bool, true, false, cond, not, ◌&&◌, eqb, get_or, replicate}
use Rattle.std.proofs.Common.{sym, ◌∙◌, inl, inr, arith}
use Rattle.std.proofs.Math.Path.{subst}
use mathlib.Core.List.{List, [], ◌∷◌, ◌++◌}
use Prim.Native.Nat.{ℕ, zero, suc, ◌+◌, ◌<◌}
use Rattle.std.proofs.Math.ListN.{length}
use Rattle.laws.specs.Small.{differ}
use Rattle.layout.specs.Fixed.{sizes}
use Rattle.layout.specs.Kind.{lookup, targets, readers as reader_heads}
use Rattle.layout.specs.Name.{Name, simple, one, two}
use Rattle.layout.specs.EnumList.{EnumEntry, size_in}
use Rattle.layout.specs.Named.{Typed, unknown, known, fixed_kind, meshed, plain, nullable_of, wrapped, paired, listed_enum, type_of, size_or_four, enum_of, array_of, reader_of, named}
use Rattle.layout.specs.Target.{Target, fixed, char, string, object as anything, texture, texture_2d, sprite_font, page, index_buffer, vertex_declaration, vertex_buffer, model, Mesh, mesh, enum, nullable, array, list, dictionary, kind_of, mesh_kind, is_value}
use Rattle.layout.specs.Tree.{Trees, none, tree, told, count, size}
use Rattle.layout.specs.Slot.{Leaf, level, blob, numeric, bone_field, code_field, uint_field, field_kind, Slot, raw, object, reference, leaf, slot_of, raw_or_object, Plan, stop, put, each, pairs, leaves, font_slots, page_slots}
use Rattle.layout.specs.Mesh.{times, then, uint, code, data_size, index_plan, element_plan, declaration_plan, buffer_plan, bone, bone_plan, kin_plan, part_plan, mesh_plan, model_plan, plan_of}
use Rattle.layout.specs.Head.{Head, Flagged, Counted, Pictured}
use Rattle.layout.specs.Image.{levels}
use Rattle.layout.specs.Layout.{Reader, Leafed, Raw, Value, Lays}
use Rattle.layout.specs.Resource.{Resource}
use Rattle.layout.specs.File.{FileTree, shared_of, objects_plan, Entries, FileLays, file_rows}
use Rattle.layout.specs.Rows.{Row, raw_rows, value_rows, noted_rows, rows_of, Below}
use Rattle.reading.specs.Reads.{Small}
use Rattle.reading.specs.File.{accepted, load_of, Named, Judges}
use Rattle.reading.proofs.Theorems.{accepted_is}
use Rattle.retyped.specs.Parts.{Each}

-- ---- What stands raw

-- a type of which a raw value is no String and has none raw below it: a value type, under Nullable too, or a vertex buffer's declaration
unfoldable Stringless : Target → Type 0
Stringless (fixed k) = Unit {0}
Stringless char = Unit {0}
Stringless (enum name z) = Unit {0}
Stringless (nullable t) = Stringless t
Stringless (mesh m) = Unit {0}
Stringless string = ⊥
Stringless anything = ⊥
Stringless (array t) = ⊥
Stringless (list t) = ⊥
Stringless (dictionary k v) = ⊥
Stringless texture = ⊥
Stringless texture_2d = ⊥
Stringless sprite_font = ⊥
Stringless page = ⊥

unfoldable StringlessSlot : Slot → Type 0
StringlessSlot (raw t) = Stringless t
StringlessSlot (object t) = Unit {0}
StringlessSlot (reference k) = Unit {0}
StringlessSlot (leaf l) = Unit {0}

-- each raw value of a plan is of such a type
unfoldable StringlessPlan : Plan → Type 0
StringlessPlan stop = Unit {0}
StringlessPlan (put y go) = StringlessSlot y × ((n : ℕ) → StringlessPlan (go n))

-- a type whose arguments keep the rules for names; 01: "Nullable's argument must be a value type other than Nullable"
unfoldable Lawful : Target → Type 0
Lawful (nullable t) = Stringless t
Lawful (array t) = is_value t ≡ true → Stringless t
Lawful (list t) = is_value t ≡ true → Stringless t
Lawful (dictionary k v) = (is_value k ≡ true → Stringless k) × (is_value v ≡ true → Stringless v)
Lawful (fixed k) = Unit {0}
Lawful char = Unit {0}
Lawful (enum name z) = Unit {0}
Lawful (mesh m) = Unit {0}
Lawful string = Unit {0}
Lawful anything = Unit {0}
Lawful texture = Unit {0}
Lawful texture_2d = Unit {0}
Lawful sprite_font = Unit {0}
Lawful page = Unit {0}

lawful_stringless : (t : Target) → Lawful t → is_value t ≡ true → Stringless t
unfolding Lawful Stringless is_value
lawful_stringless (fixed k) f v = tt
lawful_stringless char f v = tt
lawful_stringless (enum name z) f v = tt
lawful_stringless (nullable t) f v = f
lawful_stringless (mesh m) f v = tt
lawful_stringless string f v = differ cc
lawful_stringless anything f v = differ cc
lawful_stringless (array t) f v = differ cc
lawful_stringless (list t) f v = differ cc
lawful_stringless (dictionary k w) f v = differ cc
lawful_stringless texture f v = differ cc
lawful_stringless texture_2d f v = differ cc
lawful_stringless sprite_font f v = differ cc
lawful_stringless page f v = differ cc

-- ---- The types that names give

-- the type that a name gives, if it gives one, is such a type
abbrev Gives : Typed → Type 0
Gives r = (t : Target) → r ≡ known t → Lawful t

gives_none : Gives unknown
gives_none t e = differ cc

gives : (u : Target) → Lawful u → Gives (known u)
gives u f t e = let z : u ≡ t = cc in subst Lawful z f

gives_if : (b : Bool) (x y : Typed) → Gives x → Gives y → Gives (cond b x y)
gives_if true x y f g = f
gives_if false x y f g = g

plain-lawful : (k : ℕ) → Gives (plain k)
unfolding plain meshed Lawful
plain-lawful k =
    gives_if (fixed_kind k) _ _ (gives (fixed k) tt) (gives_if (eqb k 12) _ _ (gives char tt) (gives_if (eqb k 13) _ _ (gives string tt) (gives_if (eqb k 14) _ _ (gives anything tt)
    (gives_if (eqb k 31) _ _ (gives texture tt) (gives_if (eqb k 32) _ _ (gives texture_2d tt) (gives_if (eqb k 33) _ _ (gives sprite_font tt) (gives_if (eqb k 34) _ _ (gives page tt)
    (gives_if (eqb k 37) _ _ (gives (mesh index_buffer) tt) (gives_if (eqb k 38) _ _ (gives (mesh vertex_declaration) tt)
    (gives_if (eqb k 39) _ _ (gives (mesh vertex_buffer) tt) (gives_if (eqb k 40) _ _ (gives (mesh model) tt) gives_none)))))))))))

nullable-lawful : (t : Target) → Lawful t → Gives (nullable_of t)
unfolding nullable_of Lawful
nullable-lawful t f = go (is_value t) (eqb (kind_of t) 16) refl where
  go : (v n : Bool) → is_value t ≡ v → Gives (cond (v && not n) (known (nullable t)) unknown)
  go true true e = gives_none
  go true false e = gives (nullable t) (lawful_stringless t f e)
  go false n e = gives_none

wrapped-lawful : (k : ℕ) (r : Typed) → Gives r → Gives (wrapped k r)
unfolding wrapped Lawful
wrapped-lawful k unknown g = gives_none
wrapped-lawful k (known t) g =
    gives_if (eqb k 16) _ _ (nullable-lawful t (g t refl)) (gives_if (eqb k 18) _ _ (gives (list t) (lawful_stringless t (g t refl))) gives_none)

paired-lawful : (k : ℕ) (r s : Typed) → Gives r → Gives s → Gives (paired k r s)
unfolding paired Lawful
paired-lawful k unknown s g h = gives_none
paired-lawful k (known t) unknown g h = gives_none
paired-lawful k (known t) (known u) g h = gives_if (eqb k 19) _ _ (gives (dictionary t u) (lawful_stringless t (g t refl), lawful_stringless u (h u refl))) gives_none

array_lawful : (r : Typed) → Gives r → Gives (array_of r)
unfolding array_of Lawful
array_lawful unknown g = gives_none
array_lawful (known t) g = gives (array t) (lawful_stringless t (g t refl))

module _ (es : List EnumEntry) where
  type_lawful : (n : Name) → Gives (type_of es n)
  unfolding type_of listed_enum Lawful
  type_lawful (simple h t) =
      gives_if (eqb (lookup h targets) 0) _ _ (gives_if (eqb (size_in es h) 0) _ _ gives_none (gives (enum h (size_in es h)) tt)) (plain-lawful (lookup h targets))
  type_lawful (one h a t) = wrapped-lawful (lookup h targets) (type_of es a) (type_lawful a)
  type_lawful (two h a b t) = paired-lawful (lookup h targets) (type_of es a) (type_of es b) (type_lawful a) (type_lawful b)

  enum_lawful : (n : Name) → Gives (enum_of es n)
  unfolding enum_of Lawful
  enum_lawful (simple h t) = gives_if (eqb (lookup h targets) 0) _ _ (gives (enum h (size_or_four (size_in es h))) tt) gives_none
  enum_lawful (one h a t) = gives_none
  enum_lawful (two h a b t) = gives_none

  reader_lawful : (n : Name) → Gives (reader_of es n)
  unfolding reader_of
  reader_lawful (simple h t) = plain-lawful (lookup h reader_heads)
  reader_lawful (one h a t) =
      gives_if (eqb (lookup h reader_heads) 15) _ _ (enum_lawful a) (gives_if (eqb (lookup h reader_heads) 17) _ _ (array_lawful (type_of es a) (type_lawful a))
      (wrapped-lawful (lookup h reader_heads) (type_of es a) (type_lawful a)))
  reader_lawful (two h a b t) = paired-lawful (lookup h reader_heads) (type_of es a) (type_of es b) (type_lawful a) (type_lawful b)

  -- each reader of a file
  entries_lawful : (names : List (List ℕ)) (readers : List Target) (bs : List ℕ) → Entries es names readers bs → (i : ℕ) (u : Target) → i < length readers → Lawful (get_or readers i u)
  unfolding Entries named
  entries_lawful [] [] bs w i u l = absurd (omega arith)
  entries_lawful [] (t ∷ readers) bs w i u l = absurd w
  entries_lawful (name ∷ names) [] bs w i u l = absurd w
  entries_lawful (name ∷ names) (t ∷ readers) bs w zero u l = let n = w.3.lawful in reader_lawful n.0 t n.3
  entries_lawful (name ∷ names) (t ∷ readers) bs w (suc i) u l = entries_lawful names readers w.1 w.4 i u (omega arith)

-- ---- What stands below a value

unfoldable StringlessSlots : List Slot → Type 0
StringlessSlots [] = Unit {0}
StringlessSlots (y ∷ ys) = StringlessSlot y × StringlessSlots ys

each_stringless : (ys : List Slot) → StringlessSlots ys → StringlessPlan (each ys)
unfolding StringlessSlots StringlessPlan each
each_stringless [] w = tt
each_stringless (y ∷ ys) w = (w.0, λ n. each_stringless ys w.1)

slot_stringless : (t : Target) → (is_value t ≡ true → Stringless t) → StringlessSlot (slot_of t)
unfolding StringlessSlot slot_of raw_or_object
slot_stringless t f = go (is_value t) refl where
  go : (b : Bool) → is_value t ≡ b → StringlessSlot (raw_or_object b t)
  go true e = f e
  go false e = tt

replicate_stringless : (n : ℕ) (y : Slot) → StringlessSlot y → StringlessSlots (replicate n y)
unfolding StringlessSlots
replicate_stringless zero y c = tt
replicate_stringless (suc n) y c = (c, replicate_stringless n y c)

pairs_stringless : (n : ℕ) (k v : Slot) → StringlessSlot k → StringlessSlot v → StringlessSlots (pairs n k v)
unfolding StringlessSlots pairs
pairs_stringless zero k v c d = tt
pairs_stringless (suc n) k v c d = (c, (d, pairs_stringless n k v c d))

leaves_stringless : (zs : List ℕ) → StringlessSlots (leaves zs)
unfolding StringlessSlots StringlessSlot leaves
leaves_stringless [] = tt
leaves_stringless (z ∷ zs) = (tt, leaves_stringless zs)

font_stringless : StringlessPlan (each font_slots)
unfolding StringlessSlots StringlessSlot Stringless font_slots
font_stringless = each_stringless font_slots (tt, (tt, (tt, (tt, (tt, (tt, (tt, (tt, tt))))))))

page_stringless : StringlessPlan (each page_slots)
unfolding StringlessSlots StringlessSlot Stringless page_slots
page_stringless = each_stringless page_slots (tt, (tt, (tt, (tt, tt))))

times_stringless : (n : ℕ) (block : Plan → Plan) (rest : Plan) → ((p : Plan) → StringlessPlan p → StringlessPlan (block p)) → StringlessPlan rest → StringlessPlan (times n block rest)
unfolding times
times_stringless zero block rest f c = c
times_stringless (suc n) block rest f c = f (times n block rest) (times_stringless n block rest f c)

mesh_stringless : (m : Mesh) → StringlessPlan (plan_of m)
unfolding plan_of index_plan declaration_plan buffer_plan model_plan element_plan bone_plan kin_plan part_plan mesh_plan then uint code data_size bone StringlessPlan StringlessSlot Stringless
mesh_stringless index_buffer = (tt, λ flag. (tt, λ z. (tt, λ n. tt)))
mesh_stringless vertex_declaration = (tt, λ n. (tt, λ k. times_stringless k element_plan stop (λ p c. (tt, λ a. (tt, λ b. (tt, λ d. (tt, λ e. c))))) tt))
mesh_stringless vertex_buffer = (tt, λ stride. (tt, λ k. (tt, λ n. tt)))
mesh_stringless model = (
  tt,
  λ bones. times_stringless bones bone_plan _ (λ p c. (tt, λ a. (tt, λ b. c))) (times_stringless bones (kin_plan bones) _ (λ p c. (tt, λ a. (tt, λ k. times_stringless k (then (bone bones)) p (λ q d. (tt, λ b. d)) c))) (
    tt,
    λ meshes. times_stringless meshes (mesh_plan bones) _
        (λ p c. (tt, λ a. (tt, λ b. (tt, λ d. (tt, λ e. (tt, λ g. (tt, λ parts. times_stringless parts part_plan p (λ q h. (tt, λ i. (tt, λ j. (tt, λ k. (tt, λ l. (tt, λ m. (tt, λ n. (tt, λ o. (tt, λ r. h))))))))) c)))))))
        (tt, λ a. (tt, λ b. tt)),
  )),
)

counted_stringless : (slots : ℕ → List Slot) (own : List ℕ) (plan : Plan) (bs : List ℕ) → ((n : ℕ) → StringlessSlots (slots n)) → Counted slots own plan bs → StringlessPlan plan
unfolding Counted
counted_stringless slots own plan bs c w = rw w.4 (each_stringless (slots w.0) (c w.0))

flagged_stringless : (t : Target) (own : List ℕ) (plan : Plan) → Stringless t → Flagged t own plan → StringlessPlan plan
unfolding Flagged StringlessPlan StringlessSlot each
flagged_stringless t own plan c (inl w) = rw w.1 tt
flagged_stringless t own plan c (inr w) = rw w.1 (c, λ n. tt)

head_stringless : (t : Target) (own : List ℕ) (plan : Plan) (bs : List ℕ) → Lawful t → Head t own plan bs → StringlessPlan plan
unfolding Head Lawful StringlessPlan Pictured
head_stringless (fixed k) own plan bs f w = rw w.2 tt
head_stringless char own plan bs f w = rw w.2 tt
head_stringless string own plan bs f w = rw w.1 tt
head_stringless anything own plan bs f w = absurd w
head_stringless (enum name z) own plan bs f w = rw w.2 tt
head_stringless (nullable t) own plan bs f w = flagged_stringless t own plan f w.1
head_stringless (array t) own plan bs f w = counted_stringless (λ n. replicate n (slot_of t)) own plan bs (λ n. replicate_stringless n (slot_of t) (slot_stringless t f)) w
head_stringless (list t) own plan bs f w = counted_stringless (λ n. replicate n (slot_of t)) own plan bs (λ n. replicate_stringless n (slot_of t) (slot_stringless t f)) w
head_stringless (dictionary k v) own plan bs f w =
    counted_stringless (λ n. pairs n (slot_of k) (slot_of v)) own plan bs (λ n. pairs_stringless n (slot_of k) (slot_of v) (slot_stringless k f.0) (slot_stringless v f.1)) w
head_stringless texture own plan bs f w = absurd w
head_stringless texture_2d own plan bs f w = rw w.13 (each_stringless (leaves (levels w.0 w.1 w.2 w.3)) (leaves_stringless (levels w.0 w.1 w.2 w.3)))
head_stringless sprite_font own plan bs f w = rw w.2 font_stringless
head_stringless page own plan bs f w = rw w.2 page_stringless
head_stringless (mesh m) own plan bs f w = rw w.2 (mesh_stringless m)

stringless_lawful : (t : Target) → Stringless t → Lawful t
unfolding Stringless Lawful
stringless_lawful (fixed k) c = tt
stringless_lawful char c = tt
stringless_lawful (enum name z) c = tt
stringless_lawful (nullable t) c = c
stringless_lawful (mesh m) c = tt
stringless_lawful string c = absurd c
stringless_lawful anything c = absurd c
stringless_lawful (array t) c = absurd c
stringless_lawful (list t) c = absurd c
stringless_lawful (dictionary k v) c = absurd c
stringless_lawful texture c = absurd c
stringless_lawful texture_2d c = absurd c
stringless_lawful sprite_font c = absurd c
stringless_lawful page c = absurd c

-- no such type is String
stringless_other : (t : Target) (own : List ℕ) (plan : Plan) (bs : List ℕ) → Stringless t → Head t own plan bs → kind_of t ≡ 13 → ⊥
unfolding Stringless Head kind_of mesh_kind sizes
stringless_other (fixed k) own plan bs c w e = let z : 0 < get_or sizes 13 0 = rw e at w.1.sized in omega arith
stringless_other char own plan bs c w e = omega arith
stringless_other (enum name z) own plan bs c w e = omega arith
stringless_other (nullable t) own plan bs c w e = omega arith
stringless_other (mesh index_buffer) own plan bs c w e = omega arith
stringless_other (mesh vertex_declaration) own plan bs c w e = omega arith
stringless_other (mesh vertex_buffer) own plan bs c w e = omega arith
stringless_other (mesh model) own plan bs c w e = omega arith
stringless_other string own plan bs c w e = c
stringless_other anything own plan bs c w e = c
stringless_other (array t) own plan bs c w e = c
stringless_other (list t) own plan bs c w e = c
stringless_other (dictionary k v) own plan bs c w e = c
stringless_other texture own plan bs c w e = c
stringless_other texture_2d own plan bs c w e = c
stringless_other sprite_font own plan bs c w e = c
stringless_other page own plan bs c w e = c

-- ---- The rows

-- a String's row has a type id
abbrev pub Boxed : Row → Type 0
Boxed r = r.kind ≡ 13 → 0 < r.detail

each_none : (P : Row → Type 0) → Each P []
unfolding Each
each_none P = tt

each_join : (P : Row → Type 0) (rs ss : List Row) → Each P rs → Each P ss → Each P (rs ++ ss)
unfolding Each
each_join P [] ss w v = v
each_join P (r ∷ rs) ss w v = (w.0, each_join P rs ss w.1 v)

leaf_other : (l : Leaf) (kind : ℕ) (own bs : List ℕ) → Leafed l kind own bs → kind ≡ 13 → ⊥
unfolding Leafed field_kind
leaf_other (level z) kind own bs w e = omega (arith, w.0)
leaf_other (blob z) kind own bs w e = omega (arith, w.0)
leaf_other (numeric bone_field z r) kind own bs w e = omega (arith, w.0)
leaf_other (numeric code_field z r) kind own bs w e = omega (arith, w.0)
leaf_other (numeric uint_field z r) kind own bs w e = omega (arith, w.0)

module _ (readers : List Target) (refers : ℕ → ℕ → Type 0) (lawful : (id : ℕ) (u : Target) → Reader readers id u → Lawful u) where
  module _ (below : Plan → List ℕ → Type 0) (rows : Below (λ r. r) (λ k r. r) below)
      (boxed : (plan : Plan) → StringlessPlan plan → (bs : List ℕ) (w : below plan bs) (at number parent : ℕ) → Each Boxed (rows plan bs w at number parent)) where
    raw_boxed : (t : Target) (kind : ℕ) (own : List ℕ) (cs : Trees) (bs : List ℕ) (w : Raw below t kind own cs bs) (first z at number parent id : ℕ) → Lawful t → (kind ≡ 13 → 0 < id)
        → Each Boxed (raw_rows (λ r. r) (λ k r. r) below rows t kind own cs bs w first z at number parent id)
    unfolding raw_rows Each
    raw_boxed t kind own cs bs w first z at number parent id f h =
        (h, boxed w.plan (head_stringless t own w.plan w.head f w.headed) w.children w.laid (at + length w.head) (suc number) (suc number))

    reader_id : (id : ℕ) (u : Target) → Reader readers id u → 0 < id
    unfolding Reader
    reader_id id u r = omega (arith, r.1)

    value_boxed : (y : Slot) (kind id : ℕ) (own : List ℕ) (cs : Trees) (bs : List ℕ) (w : Value readers refers below y kind id own cs bs) (at number parent : ℕ) → StringlessSlot y
        → Each Boxed (value_rows (λ r. r) (λ k r. r) readers refers below rows y kind id own cs bs w at number parent)
    unfolding Value value_rows Each StringlessSlot
    value_boxed (raw t) kind id own cs bs w at number parent c =
        raw_boxed t kind own cs bs w.1 at (length bs) at number parent 0 (stringless_lawful t c) (λ e. absurd (stringless_other t own w.1.plan w.1.head c w.1.headed (sym w.1.kind_of_lem ∙ e)))
    value_boxed (object t) kind id own cs bs (inl w) at number parent c = ((λ e. absurd (omega arith)), tt)
    value_boxed (object t) kind id own cs bs (inr w) at number parent c =
        raw_boxed w.target kind own cs w.value w.laid at (length bs) (at + length w.number) number parent id (lawful id w.target w.reader) (λ e. reader_id id w.target w.reader)
    value_boxed (reference k) kind id own cs bs w at number parent c = ((λ e. absurd (omega (arith, w.kind_of_lem))), tt)
    value_boxed (leaf l) kind id own cs bs w at number parent c = ((λ e. absurd (leaf_other l kind own bs w.2 e)), tt)

  lays_boxed : (ts : Trees) (plan : Plan) (bs : List ℕ) (w : Lays readers refers plan ts bs) (at number parent : ℕ) → StringlessPlan plan → Each Boxed (rows_of readers refers plan ts bs w at number parent)
  unfolding Lays noted_rows StringlessPlan
  lays_boxed none stop bs w at number parent c = each_none Boxed
  lays_boxed none (put y go) bs w at number parent c = absurd w
  lays_boxed (tree k i own cs rest) stop bs w at number parent c = absurd w
  lays_boxed (tree k i own cs rest) (put y go) bs w at number parent c =
      each_join Boxed _ _
      (value_boxed (λ plan b. Lays readers refers plan cs b) (λ plan b v a n p. rows_of readers refers plan cs b v a n p)
      (λ plan d b v a n p. lays_boxed cs plan b v a n p d) y k i own cs w.0 w.3 at number parent c.0)
      (lays_boxed rest (go (told k own cs)) w.1 w.4 (at + length w.0) (number + suc (size cs)) parent (c.1 (told k own cs)))

module _ (es : List EnumEntry) where
  readers_lawful : (names : List (List ℕ)) (readers : List Target) (bs : List ℕ) → Entries es names readers bs → (id : ℕ) (u : Target) → Reader readers id u → Lawful u
  unfolding Reader
  readers_lawful names readers bs w id u r = subst Lawful r.3 (entries_lawful es names readers bs w r.0 anything r.2)

  objects_stringless : (shared : ℕ) → StringlessPlan (objects_plan shared)
  unfolding objects_plan StringlessSlot
  objects_stringless shared = each_stringless (replicate (suc shared) (object anything)) (replicate_stringless (suc shared) (object anything) tt)

  file_boxed : (ft : FileTree) (bs : List ℕ) (w : FileLays es ft bs) → Each Boxed (file_rows es ft bs w)
  unfolding file_rows
  file_boxed ft bs w =
      lays_boxed w.readers (Resource (shared_of ft.objects)) (readers_lawful ft.names w.readers w.lists.entries w.lists.listed)
      ft.objects (objects_plan (count (shared_of ft.objects))) w.values w.laid (10 + length w.before) 0 0 (objects_stringless (count (shared_of ft.objects)))

  -- so it is of every String row of an accepted file
  pub strings_boxed : (name_of : ℕ → List ℕ → Named) → Judges es name_of → (file : List ℕ) (words : ℕ) → Small file → (rows : List Row) (readers shared : ℕ)
      → load_of name_of file words ≡ accepted rows readers shared → Each Boxed rows
  strings_boxed name_of judges file words small rows readers shared e =
      let a = accepted_is es name_of judges file words small rows readers shared e in
      rw a.1 (file_boxed a.0.tree file a.0.lays)
