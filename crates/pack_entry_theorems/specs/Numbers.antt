-- Req 01, 10 and 11 for the entries over packs, which answer a refusal's number or 0 and write 64-bit numbers: these are the numbers of an answer of which all holds that is demanded of the code. Each record is the contract of a function that calls an entry. Assumes nothing.
use Rattle.std.specs.Prelude.{◌≡◌, Bool, not, List, ◌↔◌, ℕ, ◌≤◌, length, Result, Ok, Err, Option, Some, None}
use Rattle.pack_layout.specs.Pack.{Stored, PackLays, mark_of}
use Rattle.pack_layout.specs.Table.{wholes, Fitting}
use Rattle.pack_layout.specs.Lookup.{NoMatch}
use Rattle.pack_salvage.specs.Scan.{Piece}
use Rattle.answers.specs.declared.Refusal.{Refusal}
use Rattle.salvage.specs.declared.Salvaged.{Salvaged}
use Rattle.pack_lookup.specs.declared.Part.{Part}
use Rattle.theorems.specs.Packs.{Reads, Finds}
use Rattle.theorems.specs.Marks.{in_form, Converts}
use Rattle.theorems.specs.Salvage.{Scan, Room, Salvages}

-- ---- The numbers of each answer

-- a refusal's number and place, or 0 and the number of files
abbrev pub of_reading : Result ℕ Refusal → ℕ × ℕ
of_reading (Err e) = (e.number, e.place)
of_reading (Ok files) = (0, files)

-- a refusal's number and place, or 0 and the length of the new pack
abbrev pub of_converting : Result ℕ Refusal → ℕ × ℕ
of_converting (Err e) = (e.number, e.place)
of_converting (Ok size) = (0, size)

-- a refusal's number and place, and 0; or 0, the length of the new pack and the number of stretches
abbrev pub of_salvaging : Result Salvaged Refusal → ℕ × ℕ × ℕ
of_salvaging (Err e) = (e.number, e.place, 0)
of_salvaging (Ok s) = (0, s.length, s.stretches)

-- 1, where the data starts and how many bytes it has; or three times 0
abbrev pub of_found : Option Part → ℕ × ℕ × ℕ
of_found None = (0, 0, 0)
of_found (Some p) = (1, p.first, p.count)

-- ---- What is demanded of them

-- For the form, a pack, the number of words lent, the words as they are left, the answer and the number that is written.
pub record ReadNumbers (marked : Bool) (pack : List ℕ) (words : ℕ) (left : List ℕ) (number at : ℕ) : Type 0 where
  pub answer : Result ℕ Refusal
  pub numbers : ◌≡◌ {A = ℕ × ℕ} (number, at) (of_reading answer)
  pub reads : Reads marked pack words left answer
  -- 0 exactly when some files may have these bytes and the table has room for them
  pub accepts : (number ≡ 0) ↔ Fitting (mark_of marked) pack words

-- For the form of the new pack, the pack, the output as it was lent and as it is left, the answer and the number that is written.
pub record ConvertNumbers (marked : Bool) (pack out end : List ℕ) (number at : ℕ) : Type 0 where
  pub answer : Result ℕ Refusal
  pub numbers : ◌≡◌ {A = ℕ × ℕ} (number, at) (of_converting answer)
  pub converts : Converts marked pack out end answer
  -- 0 exactly when some files may have these bytes in the other form and the output has room for the new pack
  pub accepts : (number ≡ 0) ↔ ((fs : List Stored) × PackLays (mark_of (not marked)) fs pack × (length (in_form marked fs) ≤ length out))

-- For a pack, the output and the list as they were lent and as they are left, the answer and the two numbers that are written.
pub record SalvageNumbers (pack out list end left : List ℕ) (number at stretches : ℕ) : Type 0 where
  pub answer : Result Salvaged Refusal
  pub numbers : ◌≡◌ {A = ℕ × ℕ × ℕ} (number, at, stretches) (of_salvaging answer)
  pub salvages : Salvages pack out list end left answer
  -- 0 exactly when the pack has four bytes, and the output and the list have room for what its scan gives
  pub accepts : (number ≡ 0) ↔ ((ps : List Piece) × Scan pack ps × Room ps (length out) (length list))

-- For a pack, a table of any words, a path, the answer and the two numbers that are written.
pub record FindNumbers (pack table path : List ℕ) (number first count : ℕ) : Type 0 where
  pub answer : Option Part
  pub numbers : ◌≡◌ {A = ℕ × ℕ × ℕ} (number, first, count) (of_found answer)
  pub finds : Finds pack table path answer
  -- 0 exactly if no path matches
  pub absent : (number ≡ 0) ↔ NoMatch pack path (wholes table)
