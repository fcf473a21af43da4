-- A file that is loaded by rows and in columns. Assumes nothing.
use mathlib.Core.Path.{◌≡◌, sym, ap, ◌∙◌}
use mathlib.Core.Bool.{false, true}
use mathlib.Core.List.{List}
use Prim.Native.Nat.{ℕ, ◌+◌, ◌*◌, ◌-◌, ◌<◌}
use native.Mathlib.Omega.{arith}
use lib.ListN.{length, get_or, replicate}
use Rattle.layout.specs.Rows.{width}
use Rattle.layout.specs.Table.{room_of, cell, table, by_columns, by_rows}
use Rattle.load.specs.Under.{file_under, load_under}
use Rattle.enums.specs.Lists.{Bytes}
use Rattle.reading.specs.Reads.{Small}
use Rattle.reading.specs.File.{refusal, table_of, to_load, table_in}
use Rattle.table.specs.Grids.{cell_of, rows_grid, columns_grid}
use Rattle.table.specs.Words.{row_word_lem, column-word}
use Rattle.table.specs.Same.{SameRows}
use Rattle.layout.specs.Fits.{Fitting, rows_in}
use Rattle.theorems.specs.Standing.{zero_words}
use Rattle.theorems.specs.Fitted.{rows_room}
use Rattle.theorems.specs.Laws.{Ends, fits, refuses, bad_list, ends, table_in_lem, cleared_in}

-- the answer depends on the room alone
pub same_load : (enums file : List ℕ) (n m : ℕ) → room_of n ≡ room_of m → load_under enums file n ≡ load_under enums file m
unfolding load_under
same_load enums file n m e = ap (λ (room : ℕ). to_load (file_under enums file room)) e

module _ (enums file : List ℕ) (n m : ℕ) (bytes : Bytes enums) (small : Small file) (room : room_of n ≡ room_of m) {v w : List ℕ}
    (by_rows_lem : v ≡ table_of (load_under enums file n) n) (by_columns_lem : w ≡ table_in by_columns (load_under enums file m) m) where
  -- a file tree that fits either fits the other
  abbrev moved : Fitting enums file n → Fitting enums file m
  moved f = record { es = f.es; lawful = f.lawful; listed = f.listed; fits = record { tree = f.fits.tree; lays = f.fits.lays; room = omega (arith, f.fits.room, room) } }

  no_word : (p q : ℕ) → load_under enums file n ≡ refusal p q → (i j : ℕ) → get_or v (cell_of (rows_grid n) i j) 0 ≡ get_or w (cell_of (columns_grid m) i j) 0
  no_word p q e i j =
      let a : v ≡ replicate n 0 = by_rows_lem ∙ cleared_in enums file n p q e false in
      let b : w ≡ replicate m 0 = by_columns_lem ∙ cleared_in enums file m p q (sym (same_load enums file n m room) ∙ e) true in
      rw (a, b) (zero_words n m (cell_of (rows_grid n) i j) (cell_of (columns_grid m) i j))

  same_word : Ends enums file n → (i j : ℕ) → i < room_of n → j < width → get_or v (cell_of (rows_grid n) i j) 0 ≡ get_or w (cell_of (columns_grid m) i j) 0
  unfolding cell
  same_word (fits f) i j h k =
      let rows = rows_in f.fits in
      let a : v ≡ table by_rows rows n = by_rows_lem ∙ table_in_lem f false in
      let b : w ≡ table by_columns rows m = by_columns_lem ∙ table_in_lem (moved f) true in
      ap (λ (l : List ℕ). get_or l (width * i + j) 0) a ∙ row_word_lem rows (n - width * length rows) i j k
      ∙ sym (ap (λ (l : List ℕ). get_or l (cell_of (columns_grid m) i j) 0) b ∙ column-word (room_of m) rows (rows_room (moved f)) (replicate (m - width * room_of m) 0) i j (omega arith) k)
  same_word (refuses es l b p q e i₀) i j h k = no_word p q e i j
  same_word (bad_list p b u e) i j h k = no_word 32 p e i j

  -- "holds the same row at each number"
  pub same_rows : SameRows (rows_grid n) (columns_grid m) v w
  same_rows = record { room = room; rows = same_word (ends enums file n bytes small) }
