-- What rewriting a file answers, and what it leaves in the output and in the words (01, "Seven-bit numbers"; refusal 21). Assumes nothing.
use Rattle.std.specs.Prelude.{List, ℕ, length, replicate}
use Rattle.layout.specs.Table.{room_of}
use Rattle.layout.specs.Shortest.{short_file}
use Rattle.reading.specs.Answer.{Answer, refused, read}
use Rattle.reading.specs.Output.{Rewritten, refusal, written, fitted}
use Rattle.reading.specs.File.{Named, Loaded, file_at}

-- 01: "21 comes after every load fault"; what is written is the shortest bytes of the file tree that was read
unfoldable pub by_load : Answer Loaded → (out : ℕ) → Rewritten
by_load (refused number place) out = refusal number place
by_load (read a next) out = fitted (short_file a.tree) out

-- for a file, the number of words lent for rows and the number of bytes lent for the output
unfoldable pub rewrite_of : (ℕ → List ℕ → Named) → (file : List ℕ) (words out : ℕ) → Rewritten
rewrite_of name_of file words out = by_load (file_at name_of file (room_of words)) out

-- 01: a row table "left as a load of its input leaves it, but zero after 21 as well"
unfoldable pub words_of : Rewritten → (table : List ℕ) → List ℕ
words_of (refusal number place) table = replicate (length table) 0
words_of (written bytes) table = table
