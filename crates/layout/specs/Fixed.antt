-- Values of fixed size (01, "Values and kinds"; 000, "Primitive Types", "System Types" and "Math Types"). Assumes nothing.
use Rattle.std.specs.Prelude.{◌≡◌, List, [], ◌∷◌, ◌++◌, ◌⊎◌, ℕ, ◌+◌, ◌*◌, ◌≤◌, ◌<◌, ◌^◌, length, get_or}
use Rattle.layout.specs.Number.{little}

-- 01: "Each kind has a number and, where fixed, a size in bytes": the sizes of kinds 0 to 30, 0 where none is fixed, and for Enum, whose size goes by its name
unfoldable pub sizes : List ℕ
sizes =
    0 ∷ 1 ∷ 1 ∷ 2 ∷ 2 ∷ 4 ∷ 4 ∷ 8 ∷ 8 ∷ 4
    ∷ 8 ∷ 1 ∷ 0 ∷ 0 ∷ 0 ∷ 0 ∷ 0 ∷ 0 ∷ 0 ∷ 0
    ∷ 8 ∷ 8 ∷ 16 ∷ 8 ∷ 12 ∷ 16 ∷ 64 ∷ 16 ∷ 4 ∷ 8
    ∷ 16 ∷ []

-- 01: "Boolean is 0 or 1"
unfoldable pub Boolean : List ℕ → Type 0
Boolean own = (own ≡ 0 ∷ []) ⊎ (own ≡ 1 ∷ [])

-- 01: "DateTime: low 62 bits at most 3155378975999999999, high two bits 0 to 2"
unfoldable pub DateTime : List ℕ → Type 0
DateTime own = (ticks : ℕ) × (kind : ℕ) × (ticks ≤ 3155378975999999999) × (kind ≤ 2) × (own ≡ little 8 (ticks + 2 ^ 62 * kind))

-- 01: "Decimal: in the fourth word bits 0 to 15 and 24 to 30 are zero and bits 16 to 23 are at most 28"; bit 31 is the sign
unfoldable pub Decimal : List ℕ → Type 0
Decimal own =
    (words : List ℕ) × (scale : ℕ) × (sign : ℕ)
    × (length words ≡ 12) × (scale ≤ 28) × (sign ≤ 1) × (own ≡ words ++ little 4 (2 ^ 16 * scale + 2 ^ 31 * sign))

-- the bytes of a value of a kind of fixed size: as many as its size, any bytes but for the three kinds that have a rule
pub record Fixed (kind : ℕ) (own : List ℕ) : Type 0 where
  pub sized : 0 < get_or sizes kind 0
  pub whole : length own ≡ get_or sizes kind 0
  pub boolean : kind ≡ 11 → Boolean own
  pub date_time : kind ≡ 21 → DateTime own
  pub decimal : kind ≡ 22 → Decimal own
