-- The words of a lent table: its room, where word j of row i stands, and the words that hold rows (01, "The row table"; 02, Req 08). Assumes nothing.
use Rattle.std.specs.Prelude.{Bool, true, false, List, ◌++◌, map, ℕ, ◌+◌, ◌*◌, ◌-◌, ◌/◌, min, length, get_or, replicate}
use Rattle.layout.specs.Rows.{Row, flat, width}

-- 01: "Room is the number of whole rows in the words, at most 65,536"
unfoldable pub room_of : (words : ℕ) → ℕ
room_of words = min (words / width) 65536

-- 02, Req 08: a table stands row by row, or column by column
pub data Shape : Type 0 where
  by_rows by_columns : Shape

-- the shape of a table, by whether it is in columns
abbrev pub shape_of : (columns : Bool) → Shape
shape_of false = by_rows
shape_of true = by_columns

-- where word j of row i stands in a table with room for so many rows
unfoldable pub cell : Shape → (room i j : ℕ) → ℕ
cell by_rows room i j = width * i + j
cell by_columns room i j = i + room * j

-- word j of row i of a table by rows
abbrev pub word_in : (table : List ℕ) (i j : ℕ) → ℕ
word_in table i j = get_or table (cell by_rows (room_of (length table)) i j) 0

-- one word of each row, and zeros; "each column as long as the room"
unfoldable pub column : (room : ℕ) → (Row → ℕ) → List Row → List ℕ
column room word rows = map word rows ++ replicate (room - length rows) 0

-- "all kinds first, then all first bytes, and so on"; 02, Req 09: "Req 08's columns are then seven"
unfoldable pub columns_of : (room : ℕ) → List Row → List ℕ
columns_of room rows =
    column room (λ r. r.kind) rows
    ++ column room (λ r. r.first) rows
    ++ column room (λ r. r.bytes) rows
    ++ column room (λ r. r.children) rows
    ++ column room (λ r. r.parent) rows
    ++ column room (λ r. r.detail) rows
    ++ column room (λ r. r.branch) rows

-- so many words of a table with this room that begin with the rows, or are the rows in columns; 01: "Every word not in a used row is zero"
abbrev pub words_with : Shape → (room : ℕ) → List Row → (words : ℕ) → List ℕ
words_with by_rows room rows words = flat rows ++ replicate (words - width * length rows) 0
words_with by_columns room rows words = columns_of room rows ++ replicate (words - width * room) 0

-- the table that holds these rows, in so many words
abbrev pub table : Shape → List Row → (words : ℕ) → List ℕ
table s rows words = words_with s (room_of words) rows words
