-- The part of a file that a row names (01, "Looking up"). Assumes nothing.
use Rattle.std.specs.Prelude.{Bool, cond, List, [], ℕ, ◌+◌, ◌≤◌, ltb, leb, length, get_or, take, drop, Result, Ok, Err}
use Rattle.table.specs.declared.Grid.{Grid}
use Rattle.table.specs.Grids.{cell_of, rows_grid, columns_grid}
use Rattle.lookups.specs.declared.Span.{Span}
use Rattle.answers.specs.declared.Refusal.{Refusal}
use Rattle.answers.specs.Refusals.{refusal}

-- a part of the file, by its first byte and its length
abbrev pub span : (first length : ℕ) → Span
span first length = record { first = first; length = length }

-- a refusal of a number, at a row
abbrev pub refuses : {A : Type 0} → (number row : ℕ) → Result A Refusal
refuses number row = Err (refusal number row)

-- refused with a number and the row number unless a test holds
unfoldable pub or_refused : Bool → (number row : ℕ) → Result Span Refusal → Result Span Refusal
or_refused test number row found = cond test found (refuses number row)

-- 01, "The row table": "Six make a row: kind; first byte; length"
unfoldable pub kind_of : (g : Grid) (words : List ℕ) (row : ℕ) → ℕ
kind_of g words row = get_or words (cell_of g row 0) 0

unfoldable pub first_of : (g : Grid) (words : List ℕ) (row : ℕ) → ℕ
first_of g words row = get_or words (cell_of g row 1) 0

unfoldable pub length_of : (g : Grid) (words : List ℕ) (row : ℕ) → ℕ
length_of g words row = get_or words (cell_of g row 2) 0

-- 01: "It refuses with 23 and an empty part if the row number is not below the room, or the row has length 0 or runs past the file"
unfoldable pub part_of : (g : Grid) (file words : List ℕ) (row : ℕ) → Result Span Refusal
part_of g file words row =
    or_refused (ltb row g.room) 23 row
    (or_refused (ltb 0 (length_of g words row)) 23 row
    (or_refused (leb (first_of g words row + length_of g words row) (length file)) 23 row
    (Ok (span (first_of g words row) (length_of g words row)))))

-- the same in a table by rows
abbrev pub rows_part : (file words : List ℕ) (row : ℕ) → Result Span Refusal
rows_part file words row = part_of (rows_grid (length words)) file words row

-- and in a table in columns
abbrev pub columns_part : (file words : List ℕ) (row : ℕ) → Result Span Refusal
columns_part file words row = part_of (columns_grid (length words)) file words row

-- what is answered for a refusal, and what for a part
unfoldable pub in_part : {A : Type 0} → (refuse : ℕ → ℕ → A) → Result Span Refusal → (found : ℕ → ℕ → A) → A
in_part refuse (Err e) found = refuse e.number e.place
in_part refuse (Ok s) found = found s.first s.length

-- 01: "For these 23 precedes 24": the refusal of a row's part, or what its bytes, its first byte and the row's kind give
unfoldable pub lookup : {A : Type 0} → (refuse : ℕ → ℕ → A) → (found : (bytes : List ℕ) (first kind : ℕ) → A) → (g : Grid) (file words : List ℕ) (row : ℕ) → A
lookup refuse found g file words row = in_part refuse (part_of g file words row) (λ first size. found (take size (drop first file)) first (kind_of g words row))

-- a part that lies in a file of so many bytes
abbrev pub Lies : (size : ℕ) → Result Span Refusal → Type 0
Lies size (Err e) = Unit {0}
Lies size (Ok s) = s.first + s.length ≤ size

-- 01: "a refusal's part is empty"
unfoldable pub spanned : (file : List ℕ) → Result Span Refusal → List ℕ
spanned file span = in_part (λ number row. []) span (λ first size. take size (drop first file))
