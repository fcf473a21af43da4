-- Slots in code, whose types are places in an array of codes, and the layout's slots that they are. Assumes nothing.
use Rattle.std.specs.Prelude.{◌≡◌, ℕ, cond, List, ◌==◌, nat_le, slice_index}
use Rattle.layout.specs.Target.{Target}
use Rattle.layout.specs.Fixed.{sizes}
use Rattle.layout.specs.Slot.{raw, object}
use Rattle.layout.specs.Slot as L
use Rattle.targets.specs.Code.{Stands}
use Rattle.leaves.specs.declared.plain.Plain.{Plain}
use Rattle.leaves.specs.declared.plain.Plain.TheVariants.{Fixed, Enum, Char}
use Rattle.leaves.specs.Plain.{plain_slot, Lawful}
use Rattle.leaves.specs.Like.{Like}
use Rattle.heads.specs.declared.slot.Slot.{Slot}
use Rattle.heads.specs.declared.slot.Slot.TheVariants.{Simple, Raw, Object}

-- a raw value or an object of a type, which stands at a place of the codes
pub record RawIs (file codes : List ℕ) (place : ℕ) (x : L.Slot) : Type 0 where
  pub type : Target
  pub is : x ≡ raw type
  pub stands : Stands file codes place type

pub record ObjectIs (file codes : List ℕ) (place : ℕ) (x : L.Slot) : Type 0 where
  pub type : Target
  pub is : x ≡ object type
  pub stands : Stands file codes place type

-- the slot that a slot of the code is; one of enums stands for those of every name
abbrev pub SlotIs : (file codes : List ℕ) → Slot → L.Slot → Type 0
SlotIs file codes (Simple p) x = Like x (plain_slot p) × Lawful p
SlotIs file codes (Raw a) x = RawIs file codes a x
SlotIs file codes (Object a) x = ObjectIs file codes a x

-- how many bytes a value of a kind has, as a type's code has the kind: 01's size, or an enum's; 0 where none is fixed
unfoldable pub bytes_of : (kind : ℕ) → ℕ
bytes_of k = cond (k == 60) 1 (cond (k == 61) 2 (cond (k == 62) 4 (cond (k == 63) 8 (slice_index sizes k))))

-- a value of such a kind without children
unfoldable pub plain_of : (kind : ℕ) → Plain
plain_of k = cond (nat_le 60 k) (Enum (bytes_of k)) (Fixed k (bytes_of k))

-- a raw value, and an element or a field, of a type whose code has a kind and stands at a place
unfoldable pub raw_of : (kind a : ℕ) → Slot
raw_of k a = cond (k == 12) (Simple Char) (cond (bytes_of k == 0) (Raw a) (Simple (plain_of k)))

unfoldable pub slot_by : (kind a : ℕ) → Slot
slot_by k a = cond (k == 12) (Simple Char) (cond (k == 16) (Raw a) (cond (bytes_of k == 0) (Object a) (Simple (plain_of k))))

-- 01's kind of a type by the kind of its code: every enum's is 15
unfoldable pub row_kind : (kind : ℕ) → ℕ
row_kind k = cond (nat_le 60 k) 15 k
