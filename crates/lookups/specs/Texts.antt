-- The bytes of a text (01, "Looking up"). Assumes nothing.
use Rattle.std.specs.Prelude.{List, ℕ, ◌+◌, ◌-◌, eqb, length, Result, Ok, Err}
use Rattle.table.specs.declared.Grid.{Grid}
use Rattle.table.specs.Grids.{rows_grid, columns_grid}
use Rattle.reading.specs.Answer.{Answer, refused, read, bind}
use Rattle.reading.specs.Seven.{seven_at}
use Rattle.lookups.specs.declared.Span.{Span}
use Rattle.answers.specs.declared.Refusal.{Refusal}
use Rattle.answers.specs.Refusals.{refusal}
use Rattle.lookups.specs.Parts.{span, refuses, or_refused, lookup}

-- a text's count, which stands behind the type id, and where it ends
unfoldable pub count_at : List ℕ → Answer ℕ
count_at bytes = bind (seven_at bytes 0) (λ id at. seven_at bytes at)

-- 01: "24 unless .. the count equals what follows"; `size` is the part's length, `first` its first byte
unfoldable pub behind : (first size row : ℕ) → Answer ℕ → Result Span Refusal
behind first size row (refused number place) = Err (refusal 24 row)
behind first size row (read count start) = or_refused (eqb count (size - start)) 24 row (Ok (span (first + start) count))

-- 01: "A text lookup gives the bytes after the type id and count, 24 unless kind 13"
unfoldable pub text_in : (bytes : List ℕ) (first kind row : ℕ) → Result Span Refusal
text_in bytes first kind row = or_refused (eqb kind 13) 24 row (behind first (length bytes) row (count_at bytes))

unfoldable pub text_of : (g : Grid) (file words : List ℕ) (row : ℕ) → Result Span Refusal
text_of g file words row = lookup refuses (λ bytes first kind. text_in bytes first kind row) g file words row

-- the same in a table by rows
abbrev pub rows_text : (file words : List ℕ) (row : ℕ) → Result Span Refusal
rows_text file words row = text_of (rows_grid (length words)) file words row

-- and in a table in columns
abbrev pub columns_text : (file words : List ℕ) (row : ℕ) → Result Span Refusal
columns_text file words row = text_of (columns_grid (length words)) file words row
