-- The parts of a pack that its table names (Req 01). Assumes nothing.
use Rattle.std.specs.Prelude.{◌≡◌, List, [], ◌∷◌, ℕ, ◌+◌, ◌≤◌, length, take, drop}
use Rattle.pack_layout.specs.Pack.{Stored}
use Rattle.pack_layout.specs.Table.{Entry}

-- the part of a file that a place and a length name, and that it lies in the file
pub record Part (file : List ℕ) (first count : ℕ) (bytes : List ℕ) : Type 0 where
  pub inside : first + count ≤ length file
  pub bytes_are : take count (drop first file) ≡ bytes

-- an entry names the path and the data of a stored file
pub record NamesOne (file : List ℕ) (e : Entry) (f : Stored) : Type 0 where
  pub path_part : Part file e.path_start e.path_length f.path
  pub data_part : Part file e.data_start e.data_length f.content

-- entries name the paths and the data of files, in order
unfoldable pub Names : (file : List ℕ) → List Entry → List Stored → Type 0
Names file [] [] = Unit {0}
Names file [] (f ∷ fs) = ⊥
Names file (e ∷ es) [] = ⊥
Names file (e ∷ es) (f ∷ fs) = NamesOne file e f × Names file es fs
