-- Demand 3 and the promises of rewriting for the entries, which answer one number (01, "Looking up": "refusal (or 0) times 2 to the 32, plus place (or row count)").
-- Each record is the contract of a function that calls an entry. No reading is in it: which refusal it is, Refusals says. Assumes nothing.
use Rattle.std.specs.Prelude.{◌≡◌, refl, List, ◌++◌, ◌↔◌, ℕ, ◌+◌, ◌*◌, ◌-◌, ◌%◌, ◌<◌, ◌≤◌, length, drop, replicate}
use Rattle.layout.specs.Tree.{count}
use Rattle.layout.specs.File.{shared_of}
use Rattle.layout.specs.Rows.{width}
use Rattle.layout.specs.EnumList.{FirstBad, Unlawful}
use Rattle.layout.specs.Table.{room_of, table, Shape, by_rows}
use Rattle.layout.specs.Shortest.{short_file}
use Rattle.layout.specs.Fits.{Fitting, rows_in}

-- the entry that lends no table has room for 1,024 rows
pub own_room : room_of (1024 * width) ≡ 1024
unfolding room_of
own_room = refl

-- 02, Req 02: a list that is not lawful is 32 at an entry's number, which has no bound, so that its remainder is told
abbrev pub ListTold : (enums : List ℕ) (r : ℕ) → Type 0
ListTold enums r = Unlawful enums → (place : ℕ) × (r ≡ 32 * 4294967296 + place % 4294967296) × FirstBad enums place

-- For the lent list of enum types, a file, the number of words that its room is of, and the number that a load answers.
pub record TellsLoad (enums file : List ℕ) (words r : ℕ) : Type 0 where
  -- the number is below 2 to the 32 exactly if some file tree fits
  pub accepts : (r < 4294967296) ↔ Fitting enums file words
  -- and is then the number of its rows
  pub rows : (f : Fitting enums file words) → r ≡ length (rows_in f.fits)
  pub list : ListTold enums r

-- For the lent list of enum types, a file, the number of words lent, the words as they are left, by rows or in columns, and the three numbers that are written.
pub record Fills (s : Shape) (enums file : List ℕ) (words : ℕ) (left : List ℕ) (readers shared padding : ℕ) : Type 0 where
  -- where a file tree fits, its number of readers, its shared count, "the file's total" of padding (02, Req 06), and its rows with zeros elsewhere
  pub fills : (f : Fitting enums file words)
      → (readers ≡ length f.fits.tree.names) × (shared ≡ count (shared_of f.fits.tree.objects)) × (padding ≡ length file - length (short_file f.fits.tree)) × (left ≡ table s (rows_in f.fits) words)
  -- where none fits, all are 0: "Refused files report 0"
  pub clears : (Fitting enums file words → ⊥) → (readers ≡ 0) × (shared ≡ 0) × (padding ≡ 0) × (left ≡ replicate words 0)

-- For the lent list of enum types, a file, the number of words lent, the words as they are left, the output as it was lent and as it is left, and the number that a rewrite answers.
pub record TellsRewrite (enums file : List ℕ) (words : ℕ) (left out end : List ℕ) (r : ℕ) : Type 0 where
  -- the number is below 2 to the 32 exactly if some file tree fits, and its shortest bytes the output
  pub accepts : (r < 4294967296) ↔ ((f : Fitting enums file words) × (length (short_file f.fits.tree) ≤ length out))
  -- and is then their length; they are written, and the table is the file's
  pub rewrites : (f : Fitting enums file words) → length (short_file f.fits.tree) ≤ length out
      → (r ≡ length (short_file f.fits.tree)) × (end ≡ short_file f.fits.tree ++ drop (length (short_file f.fits.tree)) out) × (left ≡ table by_rows (rows_in f.fits) words)
  -- without room 21 "with the bytes needed, words zero, out untouched"
  pub too_small : (f : Fitting enums file words) → length out < length (short_file f.fits.tree)
      → (r ≡ 21 * 4294967296 + length (short_file f.fits.tree)) × (end ≡ out) × (left ≡ replicate words 0)
  -- where none fits, "A refused rewrite leaves its output buffer unchanged", and every word is zero
  pub unchanged : (Fitting enums file words → ⊥) → (end ≡ out) × (left ≡ replicate words 0)
  pub list : ListTold enums r
