-- Req 09 of the code: what is demanded of skipping a row and all below it, which is the contract of `load_and_skip`. Assumes nothing.
use Rattle.std.specs.Prelude.{◌≡◌, List, ℕ, ◌+◌, ◌<◌, ◌≤◌, get_or, Ok}
use Rattle.layout.specs.Table.{room_of, by_rows, cell}
use Rattle.theorems.specs.Loading.{Loads}
use Rattle.theorems.specs.declared.branched.Skipped.{Skipped}
use Rattle.load.specs.Written.{loaded}

-- For the lent list of enum types, a file that is loaded, the number of words lent, the words as they are left, a row's number and the answers.
pub record SkipsRow (enums file : List ℕ) (words : ℕ) (left : List ℕ) (row : ℕ) (r : Skipped) : Type 0 where
  pub loads : Loads by_rows enums file words left r.loading
  -- of a used row the row behind it and all below it is its number plus its count, which is a used row's or the first behind them
  pub next : (used readers shared padding : ℕ) → r.loading ≡ Ok (loaded used readers shared padding) → row < used
      → (r.next ≡ row + get_or left (cell by_rows (room_of words) row 6) 0) × (r.next ≤ used)
