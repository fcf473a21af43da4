-- Signed numbers (01, "Looking up"). Assumes nothing.
use Rattle.std.specs.Prelude.{cond, List, ℕ, ◌-◌, ◌/◌, ◌≤◌, ◌^◌, leb, eqb, ℤ, pos, negsuc, length, Result, Ok, Err}
use Rattle.table.specs.declared.Grid.{Grid}
use Rattle.table.specs.Grids.{rows_grid, columns_grid}
use Rattle.reading.specs.Answer.{Answer, refused, read}
use Rattle.reading.specs.Little.{little_at}
use Rattle.answers.specs.declared.Refusal.{Refusal}
use Rattle.answers.specs.Refusals.{refusal}
use Rattle.lookups.specs.Parts.{refuses, lookup}

-- a number in two's complement, where `top` is the largest number of as many bytes; negsuc n is -(n + 1)
unfoldable pub twos : (top value : ℕ) → ℤ
twos top value = cond (leb value (top / 2)) (pos value) (negsuc (top - value))

-- what was read is at most `top`
abbrev pub Within : (top : ℕ) → Answer ℕ → Type 0
Within top (refused number place) = Unit {0}
Within top (read value next) = value ≤ top

-- 01: "24 for .. too short a part"
unfoldable pub signed_from : (top row : ℕ) → Answer ℕ → Result ℤ Refusal
signed_from top row (refused number place) = Err (refusal 24 row)
signed_from top row (read value next) = Ok (twos top value)

-- 01: "takes the last bytes of the part", which are so many
unfoldable pub last_bytes : (bytes : List ℕ) (size row : ℕ) → Result ℤ Refusal
last_bytes bytes size row = signed_from (256 ^ size - 1) row (little_at bytes size (length bytes - size) (length bytes - size))

-- 01: "A signed lookup (kinds 2, 3, 5, 7, 20) .. 24 for another kind", with the kinds' sizes
unfoldable pub signed_in : (bytes : List ℕ) (kind row : ℕ) → Result ℤ Refusal
signed_in bytes kind row =
    cond (eqb kind 2) (last_bytes bytes 1 row)
    (cond (eqb kind 3) (last_bytes bytes 2 row)
    (cond (eqb kind 5) (last_bytes bytes 4 row)
    (cond (eqb kind 7) (last_bytes bytes 8 row)
    (cond (eqb kind 20) (last_bytes bytes 8 row) (Err (refusal 24 row))))))

unfoldable pub signed_of : (g : Grid) (file words : List ℕ) (row : ℕ) → Result ℤ Refusal
signed_of g file words row = lookup refuses (λ bytes first kind. signed_in bytes kind row) g file words row

-- the same in a table by rows
abbrev pub rows_signed : (file words : List ℕ) (row : ℕ) → Result ℤ Refusal
rows_signed file words row = signed_of (rows_grid (length words)) file words row

-- and in a table in columns
abbrev pub columns_signed : (file words : List ℕ) (row : ℕ) → Result ℤ Refusal
columns_signed file words row = signed_of (columns_grid (length words)) file words row
