-- Which heads of a well-formed name 11 complains of, and where (01, "Reader names"; 02, Req 04). Assumes nothing.
use Rattle.std.specs.Prelude.{Bool, true, false, not, ◌&&◌, cond, List, [], ◌∷◌, ◌++◌, ℕ, ◌+◌, eqb, length}
use Rattle.layout.specs.Target.{kind_of, is_value}
use Rattle.layout.specs.Name.{Name, simple, one, two, long}
use Rattle.layout.specs.Kind.{lookup, targets, readers}
use Rattle.layout.specs.EnumList.{EnumEntry}
use Rattle.layout.specs.Named.{Typed, unknown, known, plain, type_of, enum_of}

-- a name has a target
unfoldable pub is_known : Typed → Bool
is_known unknown = false
is_known (known t) = true

-- 01: "Nullable's argument must be a value type other than Nullable"
abbrev pub valuable : Typed → Bool
valuable unknown = false
valuable (known t) = is_value t && not (eqb (kind_of t) 16)

-- an argument's type is known, and lawful where its owner is Nullable
abbrev pub fitting : (nullable : Bool) → Typed → Bool
fitting nullable r = cond nullable (valuable r) (is_known r)

-- a place, unless all is well there
unfoldable pub unless : Bool → (place : ℕ) → List ℕ
unless true p = []
unless false p = p ∷ []

-- the heads of an argument that starts at a place that are complained of, from left to right.
-- 01: "A head that is not listed, or a wrong argument count: 11"; 02: "for a wrong count its owner's, for an unlawful argument the argument's own".
-- Only Nullable and List take one argument, and only Dictionary two; none of these is a value type that may stand under Nullable.
unfoldable pub type_faults : List EnumEntry → (nullable : Bool) (at : ℕ) → Name → List ℕ
type_faults es nullable at (simple h t) = unless (fitting nullable (type_of es (simple h t))) at
type_faults es nullable at (one h a t) =
    unless (cond nullable false (cond (eqb (lookup h targets) 16) true (eqb (lookup h targets) 18))) at
    ++ type_faults es (eqb (lookup h targets) 16) (at + (length h + 4)) a
type_faults es nullable at (two h a b t) =
    unless (cond nullable false (eqb (lookup h targets) 19)) at
    ++ (type_faults es false (at + (length h + 4)) a ++ type_faults es false (at + (length h + 4 + long a + 3)) b)

-- the heads of a reader's name that are complained of, from left to right; Enum's own argument is complained of at its head
unfoldable pub reader_faults : List EnumEntry → (at : ℕ) → Name → List ℕ
reader_faults es at (simple h t) = unless (is_known (plain (lookup h readers))) at
reader_faults es at (one h a t) =
    cond (eqb (lookup h readers) 15) (unless (is_known (enum_of es a)) (at + (length h + 4)))
    (cond (eqb (lookup h readers) 17) (type_faults es false (at + (length h + 4)) a)
    (unless (cond (eqb (lookup h readers) 16) true (eqb (lookup h readers) 18)) at ++ type_faults es (eqb (lookup h readers) 16) (at + (length h + 4)) a))
reader_faults es at (two h a b t) =
    unless (eqb (lookup h readers) 19) at ++ (type_faults es false (at + (length h + 4)) a ++ type_faults es false (at + (length h + 4 + long a + 3)) b)

-- 02: "11 is likewise placed at the leftmost head it complains of"
unfoldable pub leftmost : List ℕ → ℕ
leftmost [] = 0
leftmost (p ∷ ps) = p
