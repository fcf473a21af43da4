-- What rewriting a file comes to, by the list of enum types, the words and the output that are lent. Assumes nothing.
use Rattle.std.specs.Prelude.{List, length, ℕ}
use Rattle.layout.specs.Table.{room_of}
use Rattle.reading.specs.File.{table_of}
use Rattle.load.specs.Under.{file_under, load_under}
use Rattle.reading.specs.Output.{Rewritten, output_of}
use Rattle.shortest.specs.Rewrite.{by_load, words_of}

-- under a lent list of enum types; 02: 32 "before all else", then 01: "21 comes after every load fault"
unfoldable pub rewrite_under : (enums file : List ℕ) (words out : ℕ) → Rewritten
rewrite_under enums file words out = by_load (file_under enums file (room_of words)) out

-- what rewriting answers
abbrev pub rewritten : (enums file words out : List ℕ) → Rewritten
rewritten enums file words out = rewrite_under enums file (length words) (length out)

-- what it leaves in the output
abbrev pub output_left : (enums file words out : List ℕ) → List ℕ
output_left enums file words out = output_of (rewritten enums file words out) out

-- what it leaves in the words
abbrev pub words_left : (enums file words out : List ℕ) → List ℕ
words_left enums file words out = words_of (rewritten enums file words out) (table_of (load_under enums file (length words)) (length words))
