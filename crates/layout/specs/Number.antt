-- Numbers as bytes (01, "Seven-bit numbers", and "Numbers are little endian"). Assumes nothing.
use Rattle.std.specs.Prelude.{Bool, ◌&&◌, List, [], ◌∷◌, ℕ, zero, suc, ◌+◌, ◌*◌, ◌/◌, ◌%◌, ◌<◌, ◌^◌, leb}

-- 01: "Groups of seven bits, low first; the top bit says more follow": n in at most k groups
pub data Groups : ℕ → ℕ → List ℕ → Type 0 where
  last : {k n : ℕ} → n < 128 → Groups (suc k) n (n ∷ [])
  more : {k low high : ℕ} {bs : List ℕ} → low < 128 → Groups k high bs → Groups (suc k) (low + 128 * high) ((low + 128) ∷ bs)

-- 01: "At most five bytes, the fifth at most 0F hex": five groups of a number below 2 to the 32. "Padded forms are accepted": 80 00 is 0.
abbrev pub Seven : ℕ → List ℕ → Type 0
Seven n bs = (n < 2 ^ 32) × Groups 5 n bs

-- n in k bytes, little endian
unfoldable pub little : ℕ → ℕ → List ℕ
little zero n = []
little (suc k) n = n % 256 ∷ little k (n / 256)

-- the number that bytes are, little endian
unfoldable pub value_of : List ℕ → ℕ
value_of [] = 0
value_of (b ∷ bs) = b + 256 * value_of bs

-- whether a number is from `low` to `high`
abbrev pub between : (low high : ℕ) → ℕ → Bool
between low high b = leb low b && leb b high
