-- What loading a file of a pack answers (Req 01): "The XNB loader takes the data as a part of the pack". Assumes nothing.
use Rattle.std.specs.Prelude.{List, ℕ, replicate, take, drop, Option, Some, None}
use Rattle.reading.specs.File.{Load, table_of}
use Rattle.load.specs.Under.{load_under}
use Rattle.pack_reading.specs.Lookup.{Found, absent, found, find_of}
use Rattle.load.specs.Loads.{Loading, answer_of}

-- what the loader answers for the data
abbrev pub loaded_as : (bytes : List ℕ) → Load → Option Loading
loaded_as bytes x = Some (answer_of bytes x)

-- absent, or what the loader answers for the data that a lookup names, under a list of enum types
abbrev pub opening : (enums file : List ℕ) (words : ℕ) → Found → Option Loading
opening enums file words absent = None
opening enums file words (found first count) = loaded_as (take count (drop first file)) (load_under enums (take count (drop first file)) words)

abbrev pub opened_of : (enums file table path : List ℕ) (words : ℕ) → Option Loading
opened_of enums file table path words = opening enums file words (find_of file table path)

-- what the words then hold: zeros where nothing is found, else what the loader leaves for the data
abbrev pub leaving : (enums file : List ℕ) (words : ℕ) → Found → List ℕ
leaving enums file words absent = replicate words 0
leaving enums file words (found first count) = table_of (load_under enums (take count (drop first file)) words) words

abbrev pub rows_of : (enums file table path : List ℕ) (words : ℕ) → List ℕ
rows_of enums file table path words = leaving enums file words (find_of file table path)
