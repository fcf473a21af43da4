-- The target of a reader's name (01, "Reader names"), under a lent list of enum types (02, Req 02). Assumes nothing.
use Rattle.std.specs.Prelude.{◌≡◌, Bool, true, not, ◌&&◌, cond, List, ℕ, eqb, ltb, get_or}
use Rattle.layout.specs.Target.{Target, fixed, char, string, object, texture, texture_2d, sprite_font, page, index_buffer, vertex_declaration, vertex_buffer, model, mesh, enum, nullable, array, list, dictionary, kind_of, is_value}
use Rattle.layout.specs.Name.{Name, simple, one, two, text, Formed}
use Rattle.layout.specs.Kind.{lookup, targets, readers}
use Rattle.layout.specs.EnumList.{EnumEntry, EnumSize, size_in}
use Rattle.layout.specs.Fixed.{sizes}

-- 01: "A head that is not listed, or a wrong argument count: 11": such a name is unknown
pub data Typed : Type 0 where
  unknown : Typed
  known : Target → Typed

-- the kinds that are `fixed` targets: those for which 01 fixes a size
unfoldable pub fixed_kind : ℕ → Bool
fixed_kind k = ltb 0 (get_or sizes k 0)

-- the types that there are: each `fixed` in one has such a kind, and each enum one of 02's sizes. Names give no other type (crates/targets, Lawful).
unfoldable pub Lawful : Target → Type 0
Lawful (fixed k) = fixed_kind k ≡ true
Lawful char = Unit {0}
Lawful string = Unit {0}
Lawful object = Unit {0}
Lawful (enum name z) = EnumSize z
Lawful (nullable t) = Lawful t
Lawful (array t) = Lawful t
Lawful (list t) = Lawful t
Lawful (dictionary k v) = Lawful k × Lawful v
Lawful texture = Unit {0}
Lawful texture_2d = Unit {0}
Lawful sprite_font = Unit {0}
Lawful page = Unit {0}
Lawful (mesh m) = Unit {0}

-- the kinds of mesh types
unfoldable pub meshed : ℕ → Typed
meshed k =
    cond (eqb k 37) (known (mesh index_buffer)) (cond (eqb k 38) (known (mesh vertex_declaration))
    (cond (eqb k 39) (known (mesh vertex_buffer)) (cond (eqb k 40) (known (mesh model)) unknown)))

-- 01: "Enum, Nullable, Array and List take one argument, Dictionary two, the rest none": a kind with no argument
unfoldable pub plain : ℕ → Typed
plain k =
    cond (fixed_kind k) (known (fixed k)) (cond (eqb k 12) (known char) (cond (eqb k 13) (known string) (cond (eqb k 14) (known object)
    (cond (eqb k 31) (known texture) (cond (eqb k 32) (known texture_2d) (cond (eqb k 33) (known sprite_font) (cond (eqb k 34) (known page) (meshed k))))))))

-- 01: "Nullable's argument must be a value type other than Nullable"
unfoldable pub nullable_of : Target → Typed
nullable_of t = cond (is_value t && not (eqb (kind_of t) 16)) (known (nullable t)) unknown

-- a kind with one argument: Nullable or List
unfoldable pub wrapped : ℕ → Typed → Typed
wrapped k unknown = unknown
wrapped k (known t) = cond (eqb k 16) (nullable_of t) (cond (eqb k 18) (known (list t)) unknown)

-- a kind with two arguments: Dictionary
unfoldable pub paired : ℕ → Typed → Typed → Typed
paired k unknown b = unknown
paired k (known t) unknown = unknown
paired k (known t) (known u) = cond (eqb k 19) (known (dictionary t u)) unknown

-- 02: "a listed name is a known value type in arguments": the enum of this name and the size that the list gives it, 0 if it is not listed
unfoldable pub listed_enum : List ℕ → (size : ℕ) → Typed
listed_enum h size = cond (eqb size 0) unknown (known (enum h size))

-- the type of an argument; 01: "Arguments are target type names as 000 gives them"; a listed name takes no arguments
unfoldable pub type_of : List EnumEntry → Name → Typed
type_of es (simple h t) = cond (eqb (lookup h targets) 0) (listed_enum h (size_in es h)) (plain (lookup h targets))
type_of es (one h a t) = wrapped (lookup h targets) (type_of es a)
type_of es (two h a b t) = paired (lookup h targets) (type_of es a) (type_of es b)

-- 02: "EnumReader for a listed name takes that size, for others four"
unfoldable pub size_or_four : ℕ → ℕ
size_or_four size = cond (eqb size 0) 4 size

-- 01: "Array and enum types are not known as arguments, but Enum's own has any head that is no target name above and no arguments"
unfoldable pub enum_of : List EnumEntry → Name → Typed
enum_of es (simple h t) = cond (eqb (lookup h targets) 0) (known (enum h (size_or_four (size_in es h)))) unknown
enum_of es (one h a t) = unknown
enum_of es (two h a b t) = unknown

-- an Array reader's target
unfoldable pub array_of : Typed → Typed
array_of unknown = unknown
array_of (known t) = known (array t)

-- the target of a reader's name: Enum and Array take their argument here alone, the other kinds as arguments do
unfoldable pub reader_of : List EnumEntry → Name → Typed
reader_of es (simple h t) = plain (lookup h readers)
reader_of es (one h a t) =
    cond (eqb (lookup h readers) 15) (enum_of es a) (cond (eqb (lookup h readers) 17) (array_of (type_of es a)) (wrapped (lookup h readers) (type_of es a)))
reader_of es (two h a b t) = paired (lookup h readers) (type_of es a) (type_of es b)

-- 01, "Reader names": the bytes are the text of a name that keeps the grammar, nests at most 8 levels and, under a list of enum types, names a reader of this target
unfoldable pub named : List EnumEntry → List ℕ → Target → Type 0
named es s t = (n : Name) × Formed 8 n × (text n ≡ s) × (reader_of es n ≡ known t)
