-- Bytes that are written as they are, whatever stands around them. Assumes nothing.
use Rattle.std.specs.Prelude.{◌≡◌, List, ℕ, ◌≤◌, ◌<◌, length, get_or}
use Rattle.xml_escape.specs.Runs.{AllOf, Passed}

-- no control character, none of the four, not the first byte of U+FFFE and U+FFFF, and none above `most`
pub record Quiet (most b : ℕ) : Type 0 where
  pub printing : 0x20 ≤ b
  pub no_quote : b ≡ 0x22 → ⊥
  pub no_and : b ≡ 0x26 → ⊥
  pub no_less : b ≡ 0x3C → ⊥
  pub no_more : b ≡ 0x3E → ⊥
  pub no_top : b ≡ 0xEF → ⊥
  pub low : b ≤ most

-- n bytes from a place on
abbrev pub AllQuiet : (most : ℕ) (s : List ℕ) (i n : ℕ) → Type 0
AllQuiet most = AllOf (Quiet most)

-- those from one place to a later one
abbrev pub Ran : (most : ℕ) (s : List ℕ) (from i : ℕ) → Type 0
Ran most = Passed (Quiet most)

-- and where such a run ends: at the first other byte or the list's end; a place past the list's end stays
pub record RunEnd (most : ℕ) (s : List ℕ) (from i : ℕ) : Type 0 where
  pub run : from ≤ length s → Ran most s from i
  pub other : i < length s → Quiet most (get_or s i 0) → ⊥
  pub stays : length s < from → i ≡ from
