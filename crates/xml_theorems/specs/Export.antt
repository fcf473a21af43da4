-- What is demanded of the code of `export` (02, Req 13), which is the contract of `export_exact`. `exported` and `Exports` go from texts to XML; no reading is in it. Assumes nothing.
use Rattle.std.specs.Prelude.{◌≡◌, Result, Ok, Err, List, [], ◌∷◌, ◌++◌, ◌⊎◌, ℕ, suc, ◌≤◌, ◌<◌, length, take, drop, replicate}
use Rattle.layout.specs.Tree.{kind_at}
use Rattle.layout.specs.Rows.{Row}
use Rattle.layout.specs.Table.{by_rows, room_of, table, word_in}
use Rattle.layout.specs.Branches.{TableSkips}
use Rattle.layout.specs.Fits.{Fitting, rows_in}
use Rattle.xml_layout.specs.Xml.{Writable, Each, exported, Exports}
use Rattle.xml_layout.specs.Tree.{Strings, TextArray, FirstFault}
use Rattle.answers.specs.declared.Refusal.{Refusal}
use Rattle.answers.specs.Refusals.{refusal}
use Rattle.xml_theorems.specs.declared.Judged.{Judged}

-- the file tree that fits a file has an Array of String as primary, and no shared objects
abbrev pub TextsIn : {enums file : List ℕ} {words : ℕ} → Fitting enums file words → Type 0
TextsIn f = TextArray f.es f.fits.tree f.fits.lays

-- its texts are these, and all of them are written
abbrev pub Holds : {enums file : List ℕ} {words : ℕ} (f : Fitting enums file words) → TextsIn f → List (List ℕ) → Type 0
Holds f a ts = Strings ts a.children × Each Writable ts

-- "at the primary": the first byte of the first row
abbrev pub first_byte : List Row → ℕ
first_byte [] = 0
first_byte (r ∷ rows) = r.first

-- "at its row number": in the table that a load of the file leaves, the row of the text at position j has this number; the text's kind stands in the row, and the Array's row is its parent
pub record RowOf {enums file : List ℕ} {words : ℕ} (f : Fitting enums file words) (a : TextsIn f) (j number : ℕ) : Type 0 where
  pub kind : word_in (table by_rows (rows_in f.fits) words) number 0 ≡ kind_at j a.children
  pub parent : word_in (table by_rows (rows_in f.fits) words) number 4 ≡ 1

-- For the lent list of enum types, a file, the number of words lent, the words as they are left, the output as it was lent and as it is left, and the answer.
pub record ExportsFile (enums file : List ℕ) (words : ℕ) (left out end : List ℕ) (r : Result ℕ Refusal) : Type 0 where
  -- "Export a file whose primary object is an Array of String, with no shared objects" as the XML of its texts; output bytes past it stay, and the table is as a load leaves it
  pub exports : (f : Fitting enums file words) (a : TextsIn f) (ts : List (List ℕ)) → Holds f a ts → length (exported ts) ≤ length out
      → (r ≡ Ok (length (exported ts))) × (end ≡ exported ts ++ drop (length (exported ts)) out) × (left ≡ table by_rows (rows_in f.fits) words)
  -- what is exported is such a file, and the output then begins with the XML of its texts
  pub only : (n : ℕ) → r ≡ Ok n
      → (f : Fitting enums file words) × (a : TextsIn f) × (ts : List (List ℕ)) × Holds f a ts × (n ≤ length end) × Exports ts (take n end)
  -- "61 at the primary for another one or shared objects"
  pub other : (f : Fitting enums file words) → (TextsIn f → ⊥) → r ≡ Err (refusal 61 (first_byte (rows_in f.fits)))
  -- "62 for a null text, 63 for a character below 20 hex or U+FFFE or U+FFFF, the first such text decides, at its row number"
  pub fault : (f : Fitting enums file words) (a : TextsIn f) (number j : ℕ) → FirstFault a.children number j → (r ≡ Err (refusal number (suc j))) × RowOf f a j (suc j)
  -- there is no third case: all texts are written, or there is such a first one
  pub either : (f : Fitting enums file words) (a : TextsIn f) → ((ts : List (List ℕ)) × Holds f a ts) ⊎ ((number : ℕ) × (j : ℕ) × FirstFault a.children number j)
  -- "21 last", with the bytes needed
  pub too_small : (f : Fitting enums file words) (a : TextsIn f) (ts : List (List ℕ)) → Holds f a ts → length out < length (exported ts) → r ≡ Err (refusal 21 (length (exported ts)))
  -- "Output and, in export, a lent row table are treated as a rewrite's, the table being zero after 61 to 63 too"
  pub unchanged : (number place : ℕ) → r ≡ Err (refusal number place) → (end ≡ out) × (left ≡ replicate words 0)
  -- 02, Req 09: "It must hold of every table we leave": the rule of the seventh word
  pub skips : (n : ℕ) → r ≡ Ok n → (f : Fitting enums file words) → TableSkips by_rows (room_of words) left (length (rows_in f.fits))

-- For both answers of a file that is loaded and exported.
pub record Behind (r : Judged) : Type 0 where
  -- "Refusals: those of 01": what a load refuses, an export refuses alike
  pub refused : (number place : ℕ) → r.loaded ≡ Err (refusal number place) → r.exported ≡ Err (refusal number place)
