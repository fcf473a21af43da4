-- How values stand below a value (000, "Object Format": raw values, polymorphic objects, shared resources). Assumes nothing.
use Rattle.std.specs.Prelude.{Bool, true, false, List, [], ◌∷◌, ◌≡◌, ℕ, zero, suc, ◌*◌, ◌≤◌}
use Rattle.layout.specs.Target.{Target, fixed, char, string, texture_2d, page, nullable, list, kind_of, is_value}

-- a rule for a number that is judged by what stands before it, or by the codes that 000 lists
pub data Rule : Type 0 where
  at_most multiple_of : ℕ → Rule

unfoldable pub Keeps : Rule → ℕ → Type 0
Keeps (at_most m) n = n ≤ m
Keeps (multiple_of unit) n = (k : ℕ) × (n ≡ unit * k)

-- the numbers that have such a rule: a bone reference, an Int32 that is a code, and a UInt32
pub data Field : Type 0 where
  bone_field code_field uint_field : Field

-- 02, Req 05: "42 bone reference"
unfoldable pub field_kind : Field → ℕ
field_kind bone_field = 42
field_kind code_field = 5
field_kind uint_field = 6

-- bytes that no reader reads: an image level of a size, data bytes, and a number of a kind in so many bytes that keeps a rule
pub data Leaf : Type 0 where
  level : (size : ℕ) → Leaf
  blob : (size : ℕ) → Leaf
  numeric : Field → (size : ℕ) → Rule → Leaf

-- 02, Req 05: "41 data bytes"
abbrev pub leaf_kind : Leaf → ℕ
leaf_kind (level z) = 35
leaf_kind (blob z) = 41
leaf_kind (numeric f z r) = field_kind f

-- how a value stands: raw, as an object of a declared type, as a reference to a shared object of the kind wanted, or as a leaf
pub data Slot : Type 0 where
  raw object : Target → Slot
  reference : (wanted : ℕ) → Slot
  leaf : Leaf → Slot

unfoldable pub raw_or_object : Bool → Target → Slot
raw_or_object true t = raw t
raw_or_object false t = object t

-- an element or a field of a type, 000: "Object? T"; 01: "Value types .. stand raw as elements and fields. All others stand as objects"
unfoldable pub slot_of : Target → Slot
slot_of t = raw_or_object (is_value t) t

-- what stands below a value: nothing more, or a value in a slot; what follows it goes by the number that it tells
pub data Plan : Type 0 where
  stop : Plan
  put : Slot → (ℕ → Plan) → Plan

-- slots that no value has a say in
unfoldable pub each : List Slot → Plan
each [] = stop
each (x ∷ xs) = put x (λ n. each xs)

-- 01: "key and value in turn"
unfoldable pub pairs : ℕ → Slot → Slot → List Slot
pairs zero k v = []
pairs (suc n) k v = k ∷ v ∷ pairs n k v

-- image levels of these sizes
unfoldable pub leaves : List ℕ → List Slot
leaves [] = []
leaves (z ∷ zs) = leaf (level z) ∷ leaves zs

-- 000, "SpriteFont": texture, glyphs, cropping, character map, vertical line spacing, horizontal spacing, kerning, default character
unfoldable pub font_slots : List Slot
font_slots =
    object texture_2d ∷ object (list (fixed 30)) ∷ object (list (fixed 30)) ∷ object (list char)
    ∷ raw (fixed 5) ∷ raw (fixed 9) ∷ object (list (fixed 24)) ∷ raw (nullable char) ∷ []

-- 01: "Page (H): Object: String title, Rectangle area, shared reference to Texture2D, shared reference to Page"
unfoldable pub page_slots : List Slot
page_slots = object string ∷ raw (fixed 30) ∷ reference (kind_of texture_2d) ∷ reference (kind_of page) ∷ []
