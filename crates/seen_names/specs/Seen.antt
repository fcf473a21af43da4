-- Which names a table of marks may hold, and what noting one more leaves. Assumes nothing.
use Rattle.std.specs.Prelude.{Bool, ◌||◌, List, ℕ, ◌/◌, ◌%◌, ◌^◌, eqb, length, get_or, set}
use Rattle.std.specs.Int.Bits.{bit_or}
use Rattle.seen_names.specs.Sum.{spread_of, sum_of}

-- at most four bits of 64, by the upper bits of a sum
unfoldable pub bits_of : ℕ → ℕ
bits_of sum = bit_or (bit_or (bit_or (2 ^ (sum / 67108864 % 64)) (2 ^ (sum / 1048576 % 64))) (2 ^ (sum / 16384 % 64))) (2 ^ (sum / 256 % 64))

-- the cell and the bits of a name
unfoldable pub cell_of : (cells : ℕ) → List ℕ → ℕ
cell_of cells name = spread_of (sum_of name) / 65536 % cells

unfoldable pub marks_of : List ℕ → ℕ
marks_of name = bits_of (spread_of (spread_of (sum_of name)))

-- the name's cell with the name's bits set
abbrev pub marked_in : List ℕ → List ℕ → ℕ
marked_in seen name = bit_or (get_or seen (cell_of (length seen) name) 0) (marks_of name)

-- the name's bits are all set, or there is no cell
unfoldable pub is_noted : (seen name : List ℕ) → Bool
is_noted seen name = eqb (length seen) 0 || eqb (marked_in seen name) (get_or seen (cell_of (length seen) name) 0)

unfoldable pub noted : (seen name : List ℕ) → List ℕ
noted seen name = set seen (cell_of (length seen) name) (marked_in seen name)
