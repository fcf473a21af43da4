-- The head of a raw value of each type: its own bytes and its count, and what stands below it (01, "Values and kinds"; 000, "Built-In Type Readers"). Assumes nothing.
use Rattle.std.specs.Prelude.{◌≡◌, List, [], ◌∷◌, ◌++◌, ◌⊎◌, ℕ, ◌<◌, ◌≤◌, ◌^◌, max, length, replicate}
use Rattle.layout.specs.Number.{Seven, little}
use Rattle.layout.specs.Text.{Character, Utf8s}
use Rattle.layout.specs.Target.{Target, fixed, char, string, object, texture, texture_2d, sprite_font, page, mesh, enum, nullable, array, list, dictionary}
use Rattle.layout.specs.Fixed.{Fixed}
use Rattle.layout.specs.Image.{levels, digits}
use Rattle.layout.specs.Slot.{Slot, raw, slot_of, Plan, stop, each, pairs, leaves, font_slots, page_slots}
use Rattle.layout.specs.Mesh.{plan_of}

-- 01: "String: 7-bit byte count, then UTF-8"; the count is not among the own bytes
unfoldable pub Textual : (own bs : List ℕ) → Type 0
Textual own bs = (nb : List ℕ) × Seven (length own) nb × (bs ≡ nb ++ own) × Utf8s own

-- 01: "So is Nullable's first byte; 1 is followed by the value"
unfoldable pub Flagged : Target → (own : List ℕ) → Plan → Type 0
Flagged t own plan = ((own ≡ 0 ∷ []) × (plan ≡ stop)) ⊎ ((own ≡ 1 ∷ []) × (plan ≡ each (raw t ∷ [])))

-- 01: "Array, List, Dictionary: 4-byte count, then elements"; the count is not among the own bytes
unfoldable pub Counted : (ℕ → List Slot) → (own : List ℕ) → Plan → (bs : List ℕ) → Type 0
Counted slots own plan bs = (n : ℕ) × (n < 256 ^ 4) × (own ≡ []) × (bs ≡ little 4 n) × (plan ≡ each (slots n))

-- 01: "Texture2D: format 0 to 18; width and height 1 to 4,096; level count from 1 to the number of binary digits of the larger side"; the level count is not among the own bytes
unfoldable pub Pictured : (own : List ℕ) → Plan → (bs : List ℕ) → Type 0
Pictured own plan bs =
    (format : ℕ) × (w : ℕ) × (h : ℕ) × (n : ℕ)
    × (format ≤ 18) × (1 ≤ w) × (w ≤ 4096) × (1 ≤ h) × (h ≤ 4096) × (1 ≤ n) × (n ≤ digits 32 (max w h))
    × (own ≡ little 4 format ++ little 4 w ++ little 4 h) × (bs ≡ own ++ little 4 n) × (plan ≡ each (leaves (levels format w h n)))

-- the head `bs` of a raw value of a type, with its own bytes and what stands below it. 01: "Object and Texture readers are never invoked".
unfoldable pub Head : Target → (own : List ℕ) → Plan → (bs : List ℕ) → Type 0
Head (fixed k) own plan bs = (bs ≡ own) × Fixed k own × (plan ≡ stop)
Head char own plan bs = (bs ≡ own) × ((c : ℕ) × Character c own) × (plan ≡ stop)
Head string own plan bs = Textual own bs × (plan ≡ stop)
Head object own plan bs = ⊥
Head (enum name z) own plan bs = (bs ≡ own) × (length own ≡ z) × (plan ≡ stop)
Head (nullable t) own plan bs = (bs ≡ own) × Flagged t own plan
Head (array t) own plan bs = Counted (λ n. replicate n (slot_of t)) own plan bs
Head (list t) own plan bs = Counted (λ n. replicate n (slot_of t)) own plan bs
Head (dictionary k v) own plan bs = Counted (λ n. pairs n (slot_of k) (slot_of v)) own plan bs
Head texture own plan bs = ⊥
Head texture_2d own plan bs = Pictured own plan bs
Head sprite_font own plan bs = (bs ≡ []) × (own ≡ []) × (plan ≡ each font_slots)
Head page own plan bs = (bs ≡ []) × (own ≡ []) × (plan ≡ each page_slots)
Head (mesh m) own plan bs = (bs ≡ []) × (own ≡ []) × (plan ≡ plan_of m)
