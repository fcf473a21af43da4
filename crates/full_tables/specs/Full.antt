-- What is demanded of 19, which is the contract of `load_full`. No reading is in it. Assumes nothing.
use Rattle.std.specs.Prelude.{◌≡◌, List, [], ◌∷◌, ℕ, zero, suc, ◌<◌, replicate, Err}
use Rattle.layout.specs.Tree.{size}
use Rattle.layout.specs.Rows.{Row}
use Rattle.layout.specs.File.{FileTree, FileLays, file_rows}
use Rattle.layout.specs.EnumList.{EnumEntry, write_enums, Enums}
use Rattle.layout.specs.Table.{room_of}
use Rattle.answers.specs.Refusals.{refusal}
use Rattle.load.specs.Written.{Loading}

-- the first byte of row i
unfoldable pub first_of : List Row → (i : ℕ) → ℕ
first_of [] i = 0
first_of (r ∷ rows) zero = r.first
first_of (r ∷ rows) (suc i) = first_of rows i

-- For the lent list of enum types, a file, the number of words lent, the words as they are left and the answer of a load.
pub record Full (enums file : List ℕ) (words : ℕ) (left : List ℕ) (r : Loading) : Type 0 where
  -- where a file tree may have the file as its bytes and the table has no room for a row for each value in it: 19 at the first byte of the row whose number is the room, which is the first that has none, and every word is zero
  pub full : (es : List EnumEntry) → Enums es → enums ≡ write_enums es → (ft : FileTree) (w : FileLays es ft file) → room_of words < size ft.objects
      → (r ≡ Err (refusal 19 (first_of (file_rows es ft file w) (room_of words)))) × (left ≡ replicate words 0)
