-- The table of a pack (Req 01): four words a file. Assumes nothing.
use Rattle.std.specs.Prelude.{List, [], ◌∷◌, ℕ, ◌+◌, ◌/◌, ◌≤◌, length}
use Rattle.pack_layout.specs.Pack.{Stored, record_bytes, PackLays}

-- Req 01: "path start, path length, data start, data length, four 64-bit words a file"
pub record Entry : Type 0 where
  pub path_start : ℕ
  pub path_length : ℕ
  pub data_start : ℕ
  pub data_length : ℕ

-- an entry by its four words
abbrev pub entry : (start size first count : ℕ) → Entry
entry start size first count = record { path_start = start; path_length = size; data_start = first; data_length = count }

unfoldable pub flat : List Entry → List ℕ
flat [] = []
flat (e ∷ es) = e.path_start ∷ e.path_length ∷ e.data_start ∷ e.data_length ∷ flat es

-- the whole entries of a table of any words
unfoldable pub wholes : List ℕ → List Entry
wholes [] = []
wholes (a ∷ []) = []
wholes (a ∷ b ∷ []) = []
wholes (a ∷ b ∷ c ∷ []) = []
wholes (a ∷ b ∷ c ∷ d ∷ words) = entry a b c d ∷ wholes words

module _ (mark : List ℕ) where
  -- the entry of a file whose record starts at a place
  unfoldable pub entry_of : ℕ → Stored → Entry
  entry_of at f = record {
    path_start = at + length mark + length f.number;
    path_length = length f.path;
    data_start = at + length mark + length f.number + length f.path + 4;
    data_length = length f.content;
  }

  -- the entries of files whose first record starts at a place
  unfoldable pub entries : ℕ → List Stored → List Entry
  entries at [] = []
  entries at (f ∷ fs) = entry_of at f ∷ entries (at + length (record_bytes mark f)) fs

-- Req 01: "four 64-bit words a file"
unfoldable pub files_room : (words : ℕ) → ℕ
files_room words = words / 4

-- of the form with this mark, "some pack may have these bytes, and the table has room for its files"
pub record Fitting (mark file : List ℕ) (words : ℕ) : Type 0 where
  pub files : List Stored
  pub lays : PackLays mark files file
  pub room : length files ≤ files_room words
