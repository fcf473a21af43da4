-- What is demanded of the code of `import` (02, Req 13), which is the contract of `import_exact`. `Exports` says which bytes the XML of texts has; `tree_of` and `short_file` go from texts to the bytes of their file. No reading is in it. Assumes nothing.
use Rattle.std.specs.Prelude.{◌≡◌, Result, Ok, Err, List, ◌++◌, ℕ, ◌≤◌, ◌<◌, length, take, drop}
use Rattle.layout.specs.EnumList.{EnumEntry}
use Rattle.layout.specs.File.{FileLays}
use Rattle.layout.specs.Shortest.{Shortens, short_file}
use Rattle.xml_layout.specs.First.{FirstWrong}
use Rattle.xml_layout.specs.Xml.{Exports}
use Rattle.xml_layout.specs.Tree.{tree_of, TextFile}
use Rattle.answers.specs.declared.Refusal.{Refusal}
use Rattle.answers.specs.Refusals.{refusal}

-- the bytes of the file of some texts, with "two readers, ArrayReader of `System.String` then StringReader, platform `w`, flags 00"
abbrev pub file_of : List (List ℕ) → List ℕ
file_of ts = short_file (tree_of ts)

-- not "over 65,535 texts or too long a file"
pub record Within (ts : List (List ℕ)) : Type 0 where
  pub few : length ts ≤ 65535
  pub short : length (file_of ts) ≤ 16777216

-- "builds the shortest XNB file": under every list of enum types the bytes are a file with these texts in their order; no bytes of that file tree are shorter, and bytes as short are the same
pub record Built (ts : List (List ℕ)) (new : List ℕ) : Type 0 where
  pub holds : (es : List EnumEntry) → TextFile es ts new
  pub shortest : (es : List EnumEntry) (bs : List ℕ) → FileLays es (tree_of ts) bs → Shortens (FileLays es (tree_of ts)) new bs

-- For the XML, the output as it was lent and as it is left, and the answer.
pub record Imports (xml out end : List ℕ) (r : Result ℕ Refusal) : Type 0 where
  -- "Import takes exactly what the export can write": the XML of texts is taken, where the limits are kept and the output has room; output bytes past the file stay
  pub takes : (ts : List (List ℕ)) → Exports ts xml → Within ts → length (file_of ts) ≤ length out
      → (r ≡ Ok (length (file_of ts))) × (end ≡ file_of ts ++ drop (length (file_of ts)) out)
  -- and nothing else is: what is taken is the XML of texts, and the output then begins with their file
  pub only : (n : ℕ) → r ≡ Ok n → (ts : List (List ℕ)) × Exports ts xml × Within ts × (n ≤ length end) × Built ts (take n end)
  -- "64 for XML not of this form, at the first byte where no export agrees, or its end if it stops short, size apart"
  pub other : ((ts : List (List ℕ)) → Exports ts xml → ⊥) → (place : ℕ) × (r ≡ Err (refusal 64 place)) × FirstWrong Exports xml place
  -- "then 9 at 0 for over 65,535 texts or too long a file"
  pub too_much : (ts : List (List ℕ)) → Exports ts xml → (Within ts → ⊥) → r ≡ Err (refusal 9 0)
  -- "21 last", with the bytes needed
  pub too_small : (ts : List (List ℕ)) → Exports ts xml → Within ts → length out < length (file_of ts) → r ≡ Err (refusal 21 (length (file_of ts)))
  -- a refused import leaves its output unchanged
  pub unchanged : (number place : ℕ) → r ≡ Err (refusal number place) → end ≡ out
