-- The rows of values without children that are of one kind and size and follow each other. Assumes nothing.
use Rattle.std.specs.Prelude.{◌≡◌, ℕ, zero, suc, ◌+◌, ◌*◌, ◌<◌, ◌≤◌, Bool, true, false, ◌&&◌, List, nat_le}
use Rattle.std.proofs.Common.{sym, ap, ◌∙◌, arith, mul-suc, mul_comm, add-one, le-leb}
use Rattle.std.proofs.lemmas.Bool.{lt-leb}
use Rattle.layout.specs.Rows.{row, width}
use Rattle.table.specs.declared.Grid.{Grid}
use Rattle.table.specs.Word.{in_word, word_sum}
use Rattle.table.specs.Put.{put_row}

-- the first n of them, from row `used` on, each put as one row is put
unfoldable pub put_run : Grid → (used kind first size parent : ℕ) → List ℕ → (n : ℕ) → List ℕ
put_run g used kind first size parent w zero = w
put_run g used kind first size parent w (suc n) =
    put_row g (put_run g used kind first size parent w n) (used + n) (row kind (in_word (first + n * size)) (in_word size) 0 parent 0 1)

-- whether a table in so many words has n rows from row `used` on
unfoldable pub has_rows : Grid → (len used n : ℕ) → Bool
has_rows g len used n = nat_le (used + n) g.room && nat_le (width * g.room) len

pub has_rows_lem : (g : Grid) (len used n : ℕ) → used + n ≤ g.room → width * g.room ≤ len → true ≡ has_rows g len used n
unfolding has_rows
has_rows_lem g len used n h l = rw (le-leb (used + n) g.room h, le-leb (width * g.room) len l)

pub no_rows : (g : Grid) (len used n : ℕ) → g.room < used + n → false ≡ has_rows g len used n
unfolding has_rows
no_rows g len used n h = rw (lt-leb (used + n) g.room h)

pub no_words : (g : Grid) (len used n : ℕ) → used + n ≤ g.room → len < width * g.room → false ≡ has_rows g len used n
unfolding has_rows
no_words g len used n h l = rw (le-leb (used + n) g.room h, lt-leb (width * g.room) len l)

-- the first byte of the next of them
pub run_first : (first size n : ℕ) → in_word (in_word (first + n * size) + in_word size) ≡ in_word (first + (n + 1) * size)
run_first first size n =
    let z : first + (n + 1) * size ≡ first + n * size + size = omega (arith, mul_comm (suc n) size, mul-suc size n, mul_comm n size, ap (λ (k : ℕ). k * size) (add-one n)) in
    word_sum (first + n * size) size ∙ ap in_word (sym z)

-- one more of them is put
pub run_more : (g : Grid) (used kind first size parent n : ℕ) (w₀ w v : List ℕ) (at bytes : ℕ) → at ≡ in_word (first + n * size) → bytes ≡ in_word size
    → w ≡ put_run g used kind first size parent w₀ n → v ≡ put_row g w (used + n) (row kind at bytes 0 parent 0 1)
    → v ≡ put_run g used kind first size parent w₀ (n + 1)
unfolding put_run
run_more g used kind first size parent n w₀ w v at bytes a b e q = rw (q, e, a, b, add-one n)
