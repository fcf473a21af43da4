-- What is demanded of an export that is imported, and of an import that is exported (02, Req 13). Assumes nothing.
use Rattle.std.specs.Prelude.{◌≡◌, Result, Ok, Err, List, ◌++◌, ℕ, suc, ◌≤◌, ◌<◌, length, drop}
use Rattle.layout.specs.EnumList.{EnumEntry, write_enums, Enums}
use Rattle.layout.specs.Table.{room_of}
use Rattle.layout.specs.Fits.{Fitting}
use Rattle.xml_layout.specs.Xml.{exported, Exports}
use Rattle.answers.specs.declared.Refusal.{Refusal}
use Rattle.answers.specs.Refusals.{refusal}
use Rattle.xml_theorems.specs.Import.{file_of, Within, Built}
use Rattle.xml_theorems.specs.Export.{TextsIn, Holds}

-- For the lent list of enum types and a file that is exported and then imported: the number of words lent, the number of bytes lent for the XML, the second output as it was lent and as it is left, and the second answer.
pub record KeepsTexts (enums file : List ℕ) (words out : ℕ) (second end : List ℕ) (r : Result ℕ Refusal) : Type 0 where
  -- "Export then import keeps the texts and their order": the new file holds the texts of the old one, and is the shortest with the two readers
  pub keeps : (f : Fitting enums file words) (a : TextsIn f) (ts : List (List ℕ)) → Holds f a ts → length (exported ts) ≤ out → length (file_of ts) ≤ length second
      → (r ≡ Ok (length (file_of ts))) × (end ≡ file_of ts ++ drop (length (file_of ts)) second) × Built ts (file_of ts)
  -- where the second output has no room, 21 with the bytes needed: 64 and 9 are never met
  pub too_small : (f : Fitting enums file words) (a : TextsIn f) (ts : List (List ℕ)) → Holds f a ts → length (exported ts) ≤ out → length second < length (file_of ts)
      → r ≡ Err (refusal 21 (length (file_of ts)))

-- For the lent list of enum types and XML that is imported and then exported: the number of words lent, the number of bytes lent for the file, the second output as it was lent and as it is left, and the second answer.
pub record ExportsSame (enums xml : List ℕ) (words out : ℕ) (second end : List ℕ) (r : Result ℕ Refusal) : Type 0 where
  -- import then export gives the same XML, where the list is lawful and the table has a row for the Array and for each text
  pub same : (ts : List (List ℕ)) → Exports ts xml → Within ts → length (file_of ts) ≤ out
      → (es : List EnumEntry) → Enums es → enums ≡ write_enums es → suc (length ts) ≤ room_of words → length xml ≤ length second
      → (r ≡ Ok (length xml)) × (end ≡ xml ++ drop (length xml) second)
