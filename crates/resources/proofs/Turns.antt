-- Judging the rows of the words in order, row by row. Assumes nothing.
use Rattle.std.specs.Prelude.{Option, None}
use mathlib.Core.Path.{◌≡◌}
use mathlib.Core.List.{List}
use Prim.Native.Nat.{ℕ, suc, ◌+◌, ◌-◌, ◌≤◌, ◌<◌}
use native.Mathlib.Omega.{arith}
use Rattle.table.specs.declared.Grid.{Grid}
use Rattle.resources.specs.Total.{row_settled, onward, rows_settled}

module _ (g : Grid) (shared : List ℕ) (used i : ℕ) (w : List ℕ) where
  -- row i, as it was judged
  pub rows-turn : {o : Option ℕ} {v : List ℕ} → i < used → o ≡ (row_settled g shared w i).0 → v ≡ (row_settled g shared w i).1
      → rows_settled g shared (used - i) i w ≡ onward o v (λ x. rows_settled g shared (used - (i + 1)) (i + 1) x)
  unfolding rows_settled
  rows-turn h p q =
      let m : used - i ≡ suc (used - (i + 1)) = omega arith in
      rw (m, p, q)

  pub rows_end : used ≤ i → rows_settled g shared (used - i) i w ≡ (None, w)
  unfolding rows_settled
  rows_end h =
      let m : used - i ≡ 0 = omega arith in
      rw m
