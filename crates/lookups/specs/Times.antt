-- Times (01, "Looking up"). Assumes nothing.
use Rattle.std.specs.Prelude.{Bool, true, false, List, ℕ, ℤ, length, eqb, Result, Ok, Err}
use Rattle.table.specs.declared.Grid.{Grid}
use Rattle.table.specs.Grids.{rows_grid, columns_grid}
use Rattle.ticks.specs.declared.Time.{Time}
use Rattle.ticks.specs.Split.{split_of}
use Rattle.answers.specs.declared.Refusal.{Refusal}
use Rattle.answers.specs.Refusals.{refusal}
use Rattle.lookups.specs.Parts.{kind_of}
use Rattle.lookups.specs.Signs.{signed_of}

-- a signed number as a time, where its row has a time's kind; 24 where it has another
unfoldable pub as_time : (row : ℕ) → Result ℤ Refusal → Bool → Result Time Refusal
as_time row (Err e) time = Err e
as_time row (Ok ticks) true = Ok (split_of ticks)
as_time row (Ok ticks) false = Err (refusal 24 row)

-- 01: "A time in ticks is split into whole seconds, rounded down, and 0 to 9,999,999 ticks". Kind 20, TimeSpan, alone is a time here: the other signed kinds count no ticks, and DateTime is not signed.
unfoldable pub time_of : (g : Grid) (file words : List ℕ) (row : ℕ) → Result Time Refusal
time_of g file words row = as_time row (signed_of g file words row) (eqb (kind_of g words row) 20)

-- the same in a table by rows
abbrev pub rows_time : (file words : List ℕ) (row : ℕ) → Result Time Refusal
rows_time file words row = time_of (rows_grid (length words)) file words row

-- and in a table in columns
abbrev pub columns_time : (file words : List ℕ) (row : ℕ) → Result Time Refusal
columns_time file words row = time_of (columns_grid (length words)) file words row
