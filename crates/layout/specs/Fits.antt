-- A file tree that fits a file and a lent table, under a list of enum types and under the lent bytes of one (01, "The row table"; 02, Req 02). Assumes nothing.
use Rattle.std.specs.Prelude.{◌≡◌, List, ℕ, ◌≤◌}
use Rattle.layout.specs.EnumList.{EnumEntry, write_enums, Enums}
use Rattle.layout.specs.Tree.{size}
use Rattle.layout.specs.Rows.{Row}
use Rattle.layout.specs.File.{FileTree, FileLays, file_rows}
use Rattle.layout.specs.Table.{room_of}

-- "some file tree, as 01 has it, may have it as its bytes and the table has room for a row for each value in that tree"
pub record FittingTree (es : List EnumEntry) (file : List ℕ) (words : ℕ) : Type 0 where
  pub tree : FileTree
  pub lays : FileLays es tree file
  pub room : size tree.objects ≤ room_of words

-- the rows of "its values as they stand in the file"
abbrev pub rows_in : {es : List EnumEntry} {file : List ℕ} {words : ℕ} → FittingTree es file words → List Row
rows_in {es} {file} f = file_rows es f.tree file f.lays

-- 02: "demand 3 is stated for each lent list that 32 doesn't refuse; under a refused one no file is accepted": the lent bytes are those of a lawful list, and
-- a file tree fits under it
pub record Fitting (enums file : List ℕ) (words : ℕ) : Type 0 where
  pub es : List EnumEntry
  pub lawful : Enums es
  pub listed : enums ≡ write_enums es
  pub fits : FittingTree es file words
