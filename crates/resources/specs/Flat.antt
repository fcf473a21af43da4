-- A table by rows: rows stored from the first on are their words one after the other, and what stood behind them. Assumes nothing.
use Rattle.std.specs.Prelude.{◌≡◌, drop, set}
use Rattle.std.proofs.Math.Path.{refl}
use Rattle.std.proofs.Common.{◌∙◌}
use mathlib.Core.List.{List, [], ◌∷◌, ◌++◌, map}
use Prim.Native.Nat.{ℕ, suc, ◌+◌, ◌*◌, ◌≤◌}
use native.Mathlib.Omega.{arith}
use Rattle.std.proofs.Math.ListN.{length}
use Rattle.std.proofs.lemmas.List.Edits.{sets, sets-eq}
use Rattle.layout.specs.Rows.{Row, words, flat, width}
use Rattle.layout.specs.Table.{by_rows, cell}
use Rattle.table.specs.Stores.{puts, written_rows}
use Rattle.reading.specs.References.{length-flat}

-- stores one after the other, and more behind them
sets-append : (w : List ℕ) (i : ℕ) (a b : List ℕ) → sets (sets w i a) (i + length a) b ≡ sets w i (a ++ b)
sets-append w i [] b = let z : i + 0 ≡ i = omega arith in rw z
sets-append w i (x ∷ a) b = let z : i + suc (length a) ≡ suc i + length a = omega arith in rw z (sets-append (set w i x) (suc i) a b)

module _ (room : ℕ) where
  puts_sets : (w : List ℕ) (u j : ℕ) (xs : List ℕ) → puts by_rows room w u j xs ≡ sets w (width * u + j) xs
  unfolding puts cell
  puts_sets w u j [] = refl
  puts_sets w u j (x ∷ xs) =
      let z : width * u + suc j ≡ suc (width * u + j) = omega arith in
      puts_sets (set w (width * u + j) x) u (suc j) xs ∙ rw z

  rows_sets : (w : List ℕ) (u : ℕ) (rows : List Row) → written_rows by_rows room w u (map words rows) ≡ sets w (width * u) (flat rows)
  unfolding written_rows flat words
  rows_sets w u [] = refl
  rows_sets w u (r ∷ rows) =
      let z : width * u + 0 ≡ width * u = omega arith in
      let y : width * suc u ≡ width * u + length (words r) = omega arith in
      rows_sets (puts by_rows room w u 0 (words r)) (suc u) rows ∙ rw (puts_sets w u 0 (words r), z, y) (sets-append w (width * u) (words r) (flat rows))

  pub rows-flat : (w : List ℕ) (rows : List Row) → width * length rows ≤ length w → written_rows by_rows room w 0 (map words rows) ≡ flat rows ++ drop (width * length rows) w
  rows-flat w rows h =
      let l : length (flat rows) ≡ width * length rows = length-flat rows in
      let z : 0 + width * length rows ≡ width * length rows = omega arith in
      rows_sets w 0 rows ∙ sets-eq (flat rows) w 0 (omega arith) ∙ rw (l, z)
