-- Which bytes trees may have (01, "A tree or file tree may have any bytes that 000 and these rules lay out for it, each 7-bit number in any accepted form"). Assumes nothing.
use Rattle.std.specs.Prelude.{◌≡◌, List, [], ◌++◌, ◌⊎◌, ℕ, suc, ◌<◌, ◌^◌, length, get_or}
use Rattle.layout.specs.Number.{Seven, little, value_of}
use Rattle.layout.specs.Target.{Target, object as anything, kind_of, sprite_font, Serves}
use Rattle.layout.specs.Tree.{Trees, none, tree, told}
use Rattle.layout.specs.Slot.{Leaf, level, blob, numeric, leaf_kind, Keeps, Slot, raw, object, reference, leaf, Plan, stop, put}
use Rattle.layout.specs.Head.{Head}
use Rattle.layout.specs.Font.{FontRule}

-- the target of the reader that a type id names; 01: "A type id counts readers .. one more than a position"
unfoldable pub Reader : List Target → ℕ → Target → Type 0
Reader readers id t = (i : ℕ) × (id ≡ suc i) × (i < length readers) × (get_or readers i anything ≡ t)

-- what no reader reads, by its own bytes; 01: "per level a 4-byte size and the data"
unfoldable pub Leafed : Leaf → (kind : ℕ) (own bs : List ℕ) → Type 0
Leafed (level z) kind own bs = (kind ≡ leaf_kind (level z)) × (z < 256 ^ 4) × (length own ≡ z) × (bs ≡ little 4 z ++ own)
Leafed (blob z) kind own bs = (kind ≡ leaf_kind (blob z)) × (length own ≡ z) × (bs ≡ own)
Leafed (numeric f z rule) kind own bs = (kind ≡ leaf_kind (numeric f z rule)) × (length own ≡ z) × Keeps rule (value_of own) × (bs ≡ own)

-- a raw value: its head, then its children, whose bytes `below` says; a font keeps its rule
pub record Raw (below : Plan → List ℕ → Type 0) (t : Target) (kind : ℕ) (own : List ℕ) (cs : Trees) (bs : List ℕ) : Type 0 where
  pub kind_of_lem : kind ≡ kind_of t
  pub font : t ≡ sprite_font → FontRule cs
  pub plan : Plan
  pub head : List ℕ
  pub children : List ℕ
  pub parts : bs ≡ head ++ children
  pub headed : Head t own plan head
  pub laid : below plan children

-- 000, "Polymorphic Objects": "If typeid is zero, the object is null"; a null's tree has kind 0 and nothing else
pub record Null (kind id : ℕ) (own : List ℕ) (cs : Trees) (bs : List ℕ) : Type 0 where
  pub kind_of_lem : kind ≡ 0
  pub id_of : id ≡ 0
  pub empty : own ≡ []
  pub childless : cs ≡ none
  pub number : Seven 0 bs

-- 000: "Nonzero ids are followed by the object data, in the same format as a raw value for the selected type reader"
pub record Object (readers : List Target) (below : Plan → List ℕ → Type 0) (declared : Target) (kind id : ℕ) (own : List ℕ) (cs : Trees) (bs : List ℕ) : Type 0 where
  pub target : Target
  pub reader : Reader readers id target
  pub serves : Serves declared target
  pub number : List ℕ
  pub value : List ℕ
  pub parts : bs ≡ number ++ value
  pub numbered : Seven id number
  pub laid : Raw below target kind own cs value

-- 000, "Shared Resources": "serialized as a 7BitEncodedInt resourceId"; `refers` says which ids a reference that wants a kind may have
pub record Reference (refers : ℕ → ℕ → Type 0) (wanted kind id : ℕ) (own : List ℕ) (cs : Trees) (bs : List ℕ) : Type 0 where
  pub kind_of_lem : kind ≡ 36
  pub empty : own ≡ []
  pub childless : cs ≡ none
  pub named : refers wanted id
  pub number : Seven id bs

-- a value in a slot; what has no type id or resource id has 0 there
unfoldable pub Value : List Target → (ℕ → ℕ → Type 0) → (Plan → List ℕ → Type 0) → Slot → (kind id : ℕ) (own : List ℕ) (cs : Trees) (bs : List ℕ) → Type 0
Value readers refers below (raw t) kind id own cs bs = (id ≡ 0) × Raw below t kind own cs bs
Value readers refers below (object t) kind id own cs bs = Null kind id own cs bs ⊎ Object readers below t kind id own cs bs
Value readers refers below (reference wanted) kind id own cs bs = Reference refers wanted kind id own cs bs
Value readers refers below (leaf x) kind id own cs bs = (id ≡ 0) × (cs ≡ none) × Leafed x kind own bs

-- the bytes that trees may have, standing one after the other as a plan says, under a reader list and a rule for references
unfoldable pub Lays : List Target → (ℕ → ℕ → Type 0) → Plan → Trees → List ℕ → Type 0
Lays readers refers stop none bs = bs ≡ []
Lays readers refers (put x go) none bs = ⊥
Lays readers refers stop (tree k i own cs rest) bs = ⊥
Lays readers refers (put x go) (tree k i own cs rest) bs =
    (b₁ : List ℕ) × (b₂ : List ℕ) × (bs ≡ b₁ ++ b₂)
    × Value readers refers (λ plan b. Lays readers refers plan cs b) x k i own cs b₁
    × Lays readers refers (go (told k own cs)) rest b₂
