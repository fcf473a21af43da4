-- The rows of a file tree in a table in columns, and tables that are all zero. Assumes nothing.
use Rattle.std.specs.Prelude.{◌≡◌, List, ◌++◌, ℕ, ◌≤◌, length, get_or, replicate}
use Rattle.std.proofs.Common.{sym, ◌∙◌, arith}
use Rattle.layout.specs.Rows.{Row}
use Rattle.layout.specs.Table.{by_columns, columns_of}
use Rattle.table.specs.Words.{zero_word, column-word}
use Rattle.branches.specs.Table.{Stand}

pub columns_stand : (room : ℕ) (rows : List Row) → length rows ≤ room → (rest : List ℕ) → Stand by_columns room (columns_of room rows ++ rest) rows
columns_stand room rows fits rest i j h k = column-word room rows fits rest i j (omega arith) k

-- no word of a table that is all zero differs from another's
pub zero_words : (n m i j : ℕ) → ◌≡◌ {A = ℕ} (get_or (replicate n 0) i 0) (get_or (replicate m 0) j 0)
zero_words n m i j = zero_word n i ∙ sym (zero_word m j)
