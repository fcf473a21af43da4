-- What the loops over a text keep. Assumes nothing.
use Rattle.std.specs.Prelude.{◌≡◌, false, List, ℕ, ◌+◌, ◌≤◌, ◌<◌, length, get_or, drop}
use Rattle.reading.specs.Utf8.{utf8s}

-- n bytes from a place on are ASCII
abbrev pub Ascii : (s : List ℕ) (i n : ℕ) → Type 0
Ascii s i n = (k : ℕ) → k < n → get_or s (i + k) 0 < 0x80

-- from one place to a later one: what is left decides the same
pub record Passed (s : List ℕ) (from i : ℕ) : Type 0 where
  pub forward : from ≤ i
  pub inside : i ≤ length s
  pub same : utf8s (drop i s) ≡ utf8s (drop from s)

-- the same up to the end, or to a place before it where no character starts
pub record Ran (s : List ℕ) (from i : ℕ) : Type 0 where
  pub passed : Passed s from i
  pub stops : i < length s → utf8s (drop i s) ≡ false
