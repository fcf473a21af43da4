-- A number as a word of 32 bits holds it. Assumes nothing.
use Rattle.std.specs.Prelude.{◌≡◌, ℕ, ◌+◌, ◌%◌, ◌^◌, ◌<◌}
use Rattle.std.proofs.Common.{arith}

-- its remainder by 2 to the 32
unfoldable pub in_word : ℕ → ℕ
in_word n = n % 2 ^ 32

pub in_word_lem : (n : ℕ) → n < 2 ^ 32 → in_word n ≡ n
unfolding in_word
in_word_lem n h = omega arith

-- a sum of such numbers
pub word_sum : (a b : ℕ) → in_word (in_word a + in_word b) ≡ in_word (a + b)
unfolding in_word
word_sum a b = omega arith

pub word_more : (a b : ℕ) → in_word (a + in_word b) ≡ in_word (a + b)
unfolding in_word
word_more a b = omega arith
