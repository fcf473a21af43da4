-- The kinds of the rows that have no parent, in file order. Assumes nothing.
use Rattle.std.specs.Prelude.{◌≡◌, List, [], ◌++◌, ℕ, get_or, take}
use Rattle.reading.specs.File.{root_kind}
use Rattle.table.specs.declared.Grid.{Grid}
use Rattle.table.specs.Grids.{cell_of}

-- the kind of row i is put behind those that are found, if the row has no parent and there is room for it: for the primary and the shared objects; 01: "shared count (0 to 256)"
abbrev pub NotesRow : Grid → (w : List ℕ) (i : ℕ) → (entry exit : List ℕ) → Type 0
NotesRow g w i entry exit = exit ≡ take 257 (entry ++ root_kind (get_or w (cell_of g i 4) 0) (get_or w (cell_of g i 0) 0) [])
