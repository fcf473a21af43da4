-- What putting an enum's target in its place leaves. Assumes nothing.
use Rattle.std.specs.Prelude.{◌≡◌, Bool, ◌&&◌, cond, List, ℕ, ◌+◌, ◌%◌, eqb, leb, get_or, set}
use Rattle.targets.specs.Contract.{enum_word}

-- the codes from `used` to `end` are those of an enum's reader
unfoldable pub is_enums : (c : List ℕ) (used end : ℕ) → Bool
is_enums c used end = leb (used + 2) end && eqb (get_or c used 0 % 256) 79

-- the codes before and after, and the target's end
pub record Settles (c c' : List ℕ) (used end r : ℕ) : Type 0 where
  pub ends : r ≡ cond (is_enums c used end) (used + 1) end
  pub writes : c' ≡ cond (is_enums c used end) (set c used (enum_word (get_or c (used + 1) 0))) c
