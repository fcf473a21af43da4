-- What the last pass answers and leaves, for every input, by the words alone; rows that the words do not have read as 0. Assumes nothing.
use Rattle.std.specs.Prelude.{◌≡◌, Bool, true, false, cond, List, [], ℕ, zero, suc, ◌+◌, ◌-◌, ◌<◌, eqb, get_or, take, drop, set, Option, Some, None}
use Rattle.reading.specs.Drafts.{resource}
use Rattle.reading.specs.Resource.{suits}
use Rattle.reading.specs.File.{root_kind}
use Rattle.table.specs.declared.Grid.{Grid}
use Rattle.table.specs.Grids.{cell_of}

-- the first row that is not fine is the answer
abbrev pub onward : Option ℕ → List ℕ → (List ℕ → Option ℕ × List ℕ) → Option ℕ × List ℕ
onward None w rest = rest w
onward (Some first) w rest = (Some first, w)

module _ (g : Grid) where
  -- the kinds of the rows that have no parent, among so many rows from row i on
  unfoldable pub roots_from : List ℕ → (left i : ℕ) → List ℕ
  roots_from w zero i = []
  roots_from w (suc left) i = root_kind (get_or w (cell_of g i 4) 0) (get_or w (cell_of g i 0) 0) (roots_from w left (i + 1))

  -- the first 257 of them, for the primary and the shared objects
  abbrev pub roots_of : List ℕ → (used : ℕ) → List ℕ
  roots_of w used = take 257 (roots_from w used 0)

  -- a reference in row i: its fourth word becomes 0 if its resource suits it, else its first byte is the answer
  abbrev pub fitted : Bool → List ℕ → (i : ℕ) → Option ℕ × List ℕ
  fitted true w i = (None, set w (cell_of g i 3) 0)
  fitted false w i = (Some (get_or w (cell_of g i 1) 0), w)

  -- whether the resource that row i names suits it, where the shared objects have these kinds
  abbrev pub suited : (shared w : List ℕ) (i : ℕ) → Bool
  suited shared w i = suits shared (resource (get_or w (cell_of g i 3) 0)) (get_or w (cell_of g i 5) 0)

  -- row i: only a row of kind 36 is a reference
  unfoldable pub row_settled : (shared w : List ℕ) → (i : ℕ) → Option ℕ × List ℕ
  row_settled shared w i = cond (eqb (get_or w (cell_of g i 0) 0) 36) (fitted (suited shared w i) w i) (None, w)

  -- so many rows from row i on (01: "17 last, in row order")
  unfoldable pub rows_settled : (shared : List ℕ) → (left i : ℕ) → List ℕ → Option ℕ × List ℕ
  rows_settled shared zero i w = (None, w)
  rows_settled shared (suc left) i w = onward (row_settled shared w i).0 (row_settled shared w i).1 (λ v. rows_settled shared left (i + 1) v)

  -- whether one of so many rows from row i on is a reference
  unfoldable pub any_reference : List ℕ → (left i : ℕ) → Bool
  any_reference w zero i = false
  any_reference w (suc left) i = cond (eqb (get_or w (cell_of g i 0) 0) 36) true (any_reference w left (i + 1))

  -- no row of n from row i on is a reference
  abbrev pub NoneAmong : List ℕ → (i n : ℕ) → Type 0
  NoneAmong w i n = (k : ℕ) → k < n → get_or w (cell_of g (i + k) 0) 0 ≡ 36 → ⊥

  -- the first `used` rows, where the roots among them are the primary and then the shared objects
  abbrev pub settle_of : List ℕ → (used : ℕ) → Option ℕ × List ℕ
  settle_of w used = rows_settled (drop 1 (roots_of w used)) used 0 w

  -- the rows from one on, where the roots among the first `used` rows are the primary and then the shared objects
  abbrev pub settle_from : List ℕ → (used from : ℕ) → Option ℕ × List ℕ
  settle_from w used from = rows_settled (drop 1 (roots_of w used)) (used - from) from w

  -- whether row i names a resource, and the words, by whether the row is a reference and whether its id is 0
  abbrev pub nulled : (reference null : Bool) → List ℕ → (i : ℕ) → Bool × List ℕ
  nulled true true w i = (false, set w (cell_of g i 3) 0)
  nulled true false w i = (true, w)
  nulled false null w i = (false, w)

  -- row i: the fourth word of a null reference becomes 0
  unfoldable pub null_cleared : List ℕ → (i : ℕ) → Bool × List ℕ
  null_cleared w i = nulled (eqb (get_or w (cell_of g i 0) 0) 36) (eqb (get_or w (cell_of g i 5) 0) 0) w i
