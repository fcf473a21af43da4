-- Demand 3 of the code of `load` and `load_columns`, which is the contract of `load_exact` and `load_columns_exact`. The layout states which bytes a tree may have; reader names are stated by writing them; `short_file` goes from a file tree to its shortest bytes, with no file in it. Assumes nothing.
use Rattle.std.specs.Prelude.{◌≡◌, List, ◌↔◌, ℕ, suc, ◌-◌, ◌≤◌, length, replicate, Err, Ok}
use Rattle.layout.specs.Tree.{count}
use Rattle.layout.specs.File.{shared_of}
use Rattle.layout.specs.EnumList.{EnumEntry, write_enums, Enums, FirstBad, Unlawful}
use Rattle.layout.specs.Refusals.{LoadNumber}
use Rattle.layout.specs.Table.{room_of, Shape, table}
use Rattle.layout.specs.Branches.{TableSkips, TableRoots}
use Rattle.layout.specs.Shortest.{short_file}
use Rattle.load.specs.Written.{Loading}
use Rattle.layout.specs.Fits.{Fitting, rows_in}
use Rattle.load.specs.Written.{loaded}
use Rattle.answers.specs.Refusals.{refusal as refusal_at}

-- the answer is no refusal
abbrev pub IsLoaded : Loading → Type 0
IsLoaded (Err e) = ⊥
IsLoaded (Ok r) = Unit {0}

-- For a table of a shape, by rows or in columns (02, Req 08): the lent list of enum types, a file, the number of words lent, the words as they are left and the answer. No reading is in it.
pub record Loads (s : Shape) (enums file : List ℕ) (words : ℕ) (left : List ℕ) (r : Loading) : Type 0 where
  -- "the loader accepts the file exactly when some file tree, as 01 has it, may have it as its bytes and the table has room for a row for each value in that tree": it is loaded if, and only if;
  -- 02, Req 02: "for each lent list that 32 doesn't refuse; under a refused one no file is accepted"
  pub accepts : IsLoaded r ↔ Fitting enums file words
  -- then "the rows are exactly those of its values as they stand in the file", every other word is zero, and the answer is the number of rows, of readers and of shared objects, and (02, Req 06) "the file's total": by how many bytes the file is longer than the shortest bytes of the tree
  pub rows : (f : Fitting enums file words)
      → (r ≡ Ok (loaded (length (rows_in f.fits)) (length f.fits.tree.names) (count (shared_of f.fits.tree.objects)) (length file - length (short_file f.fits.tree)))) × (left ≡ table s (rows_in f.fits) words)
  -- where none fits, the answer is one refusal's number and place, and every word is zero
  pub refuses : (Fitting enums file words → ⊥) → (number : ℕ) × (place : ℕ) × (r ≡ Err (refusal_at number place)) × (left ≡ replicate words 0)
  -- 02, Req 02: a list that is not the bytes of a lawful one is 32 "placed at the first such entry's number from 0, before all else", whatever the file is
  pub list : Unlawful enums → (place : ℕ) × (r ≡ Err (refusal_at 32 place)) × FirstBad enums place
  -- 02, Req 09: "It must hold of every table we leave, in rows or columns": the rule of the seventh word
  pub skips : (used readers shared padding : ℕ) → r ≡ Ok (loaded used readers shared padding) → TableSkips s (room_of words) left used
  -- and the rows of the primary and the shared objects follow each other too, to the last row
  pub roots : (used readers shared padding : ℕ) → r ≡ Ok (loaded used readers shared padding) → TableRoots s (room_of words) left used (suc shared)
  -- under a lawful list a refusal's number is one of 01's and 02's for a load, and its place is in the file
  pub inside : (es : List EnumEntry) → Enums es → enums ≡ write_enums es → (number place : ℕ) → r ≡ Err (refusal_at number place) → LoadNumber number × (place ≤ length file)
