-- A sum over the bytes of a name, by which its cell and its bits are picked. Assumes nothing.
use Rattle.std.specs.Prelude.{List, [], ◌∷◌, ℕ, ◌+◌, ◌*◌, ◌/◌, ◌%◌}

abbrev pub step_of : (sum next : ℕ) → ℕ
step_of sum next = (sum * 2654435769 + next) % 4294967296

-- with each bit of a sum in the upper bits
abbrev pub spread_of : ℕ → ℕ
spread_of sum = step_of sum (sum / 65536)

-- four bytes at once as long as there are four, then each byte
unfoldable pub sum_from : ℕ → List ℕ → ℕ
sum_from h [] = h
sum_from h (a ∷ []) = step_of h a
sum_from h (a ∷ (b ∷ [])) = step_of (step_of h a) b
sum_from h (a ∷ (b ∷ (c ∷ []))) = step_of (step_of (step_of h a) b) c
sum_from h (a ∷ (b ∷ (c ∷ (d ∷ s)))) = sum_from (step_of h (a + b * 256 + c * 65536 + d * 16777216)) s

unfoldable pub sum_of : List ℕ → ℕ
sum_of name = sum_from 0 name
