-- A text's bytes, each beside the three before it. Assumes nothing.
use Rattle.std.specs.Prelude.{◌≡◌, true, List, ◌⊎◌, ℕ, ◌+◌, ◌≤◌, ◌<◌, length, get_or, drop}
use Rattle.reading.specs.Utf8.{least, most, follow}
use Rattle.text.specs.Passed.{Passed}

-- RFC 3629, section 4: the byte d after the bytes a, b and c. It starts a character where none of them asks for it; else it is what the one that asks for it takes.
pub record Fits (a b c d : ℕ) : Type 0 where
  pub starts : a < 0xF0 → b < 0xE0 → c < 0xC0 → (d < 0x80) ⊎ ((0xC2 ≤ d) × (d < 0xF5))
  pub second : 0xC0 ≤ c → (least c ≤ d) × (d ≤ most c)
  pub third : 0xE0 ≤ b → (0x80 ≤ d) × (d ≤ 0xBF)
  pub fourth : 0xF0 ≤ a → (0x80 ≤ d) × (d ≤ 0xBF)

-- each of n bytes fits after the three before it, of which the first three stand at `at`
abbrev pub AllFit : (s : List ℕ) (at n : ℕ) → Type 0
AllFit s at n = (k : ℕ) → k < n → Fits (get_or s (at + k) 0) (get_or s (at + k + 1) 0) (get_or s (at + k + 2) 0) (get_or s (at + k + 3) 0)

-- the lead byte b at p, and k bytes of its character after it
pub record Part (s : List ℕ) (from p k b : ℕ) : Type 0 where
  pub passed : Passed s from p
  pub inside : p < length s
  pub lead : get_or s p 0 ≡ b
  pub follows : follow k (least b) (most b) (drop (p + 1) s) ≡ true

-- what stands before `at`, whose last bytes are a, b and c: whole characters, and of one more its first one, two or three bytes
pub data Before (s : List ℕ) (from at a b c : ℕ) : Type 0 where
  whole : a < 0xF0 → b < 0xE0 → c < 0xC0 → Passed s from at → Before s from at a b c
  one : (p : ℕ) → at ≡ p + 1 → a < 0xF0 → b < 0xE0 → 0xC2 ≤ c → c < 0xF5 → Part s from p 0 c → Before s from at a b c
  two : (p : ℕ) → at ≡ p + 2 → a < 0xF0 → 0xE0 ≤ b → b < 0xF5 → c < 0xC0 → Part s from p 1 b → Before s from at a b c
  three : (p : ℕ) → at ≡ p + 3 → 0xF0 ≤ a → a < 0xF5 → b < 0xC0 → c < 0xC0 → Part s from p 2 a → Before s from at a b c

-- the same of the three bytes at `at`
abbrev pub Three : (s : List ℕ) (from at : ℕ) → Type 0
Three s from at = Before s from (at + 3) (get_or s at 0) (get_or s (at + 1) 0) (get_or s (at + 2) 0)
