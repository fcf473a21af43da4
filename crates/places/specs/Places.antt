-- Where the seven-bit numbers of a file start, by its rows: the reader count, the lengths of names, the shared count, type ids, resource ids and texts' counts. Assumes nothing.
use Rattle.std.specs.Prelude.{cond, List, [], ◌∷◌, ◌++◌, ℕ, zero, suc, ◌+◌, eqb}
use Rattle.layout.specs.Rows.{Row}
use Rattle.layout.specs.Shortest.{numbered}
use Rattle.reading.specs.Answer.{Answer}
use Rattle.reading.specs.Seven.{seven_at}
use Rattle.numbers.specs.Padded.{number_of, past}

-- where a reader ends: its name's length, the name, and four bytes of a version
unfoldable pub behind_entry : Answer ℕ → (at : ℕ) → ℕ
behind_entry x at = past x at + number_of x + 4

module _ (file : List ℕ) where
  -- the places of a row's type id or resource id, and of a text's count behind it
  unfoldable pub id_places : (kind first detail : ℕ) → List ℕ
  id_places kind first detail = cond (numbered kind detail) (first ∷ []) []

  unfoldable pub raw_place : (kind first detail : ℕ) → ℕ
  raw_place kind first detail = cond (numbered kind detail) (past (seven_at file first) first) first

  unfoldable pub count_places : (kind at : ℕ) → List ℕ
  count_places kind at = cond (eqb kind 13) (at ∷ []) []

  unfoldable pub rows_places : List Row → List ℕ
  rows_places [] = []
  rows_places (r ∷ rows) =
      id_places r.kind r.first r.detail ++ (count_places r.kind (raw_place r.kind r.first r.detail) ++ rows_places rows)

  -- the places of the lengths of n names, the first of which stands at `at`, and where the readers end
  unfoldable pub entries_places : (n at : ℕ) → List ℕ
  entries_places zero at = []
  entries_places (suc n) at = at ∷ entries_places n (behind_entry (seven_at file at) at)

  unfoldable pub entries_end : (n at : ℕ) → ℕ
  entries_end zero at = at
  entries_end (suc n) at = entries_end n (behind_entry (seven_at file at) at)

  -- the reader count at `at`, the lengths of n names and the shared count
  unfoldable pub lists_places : (n at : ℕ) → List ℕ
  lists_places n at = at ∷ (entries_places n (past (seven_at file at) at) ++ (entries_end n (past (seven_at file at) at) ∷ []))

  -- of a file with so many readers and these rows
  unfoldable pub file_places : (readers : ℕ) → List Row → List ℕ
  file_places readers rows = lists_places readers 10 ++ rows_places rows
