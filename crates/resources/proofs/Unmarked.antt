-- Whether a reference is among the rows of the words, row by row, and what becomes of rows with none. Assumes nothing.
use Rattle.std.specs.Prelude.{None}
use mathlib.Core.Path.{◌≡◌, refl, ◌∙◌}
use mathlib.Core.Bool.{Bool, true, false, cond, ◌||◌}
use mathlib.Core.List.{List}
use Prim.Native.Nat.{ℕ, zero, suc, ◌+◌, ◌-◌, ◌≤◌, ◌<◌}
use native.Mathlib.Omega.{arith}
use native.Mathlib.Decide.{dec_lt}
use lib.Dec.{eqb}
use lib.ListN.{get_or, drop}
use borrow.Author.Tests.{eq-eqb, ne_eqb, eqb-false}
use Rattle.laws.specs.Small.{differ, neither}
use Rattle.table.specs.declared.Grid.{Grid}
use Rattle.table.specs.Grids.{cell_of}
use Rattle.resources.specs.Total.{fitted, suited, row_settled, onward, rows_settled, NoneAmong, any_reference, roots_of, settle_of}

module _ (g : Grid) (w : List ℕ) where
  module _ (used i : ℕ) where
    -- row i is a reference
    pub any_found : {kind : ℕ} → i < used → kind ≡ get_or w (cell_of g i 0) 0 → kind ≡ 36 → any_reference g w (used - i) i ≡ true
    unfolding any_reference
    any_found {kind} h k e =
        let m : used - i ≡ suc (used - (i + 1)) = omega arith in
        rw (m, ← k, eq-eqb kind 36 e)

    -- it is not: the rows behind it say
    pub any_turn : {kind : ℕ} → i < used → kind ≡ get_or w (cell_of g i 0) 0 → (kind ≡ 36 → ⊥)
        → any_reference g w (used - i) i ≡ any_reference g w (used - (i + 1)) (i + 1)
    unfolding any_reference
    any_turn {kind} h k e =
        let m : used - i ≡ suc (used - (i + 1)) = omega arith in
        rw (m, ← k, ne_eqb kind 36 e)

    pub any_end : used ≤ i → any_reference g w (used - i) i ≡ false
    unfolding any_reference
    any_end h =
        let m : used - i ≡ 0 = omega arith in
        rw m

  -- one row more that is no reference, where b says whether one before it is
  pub none_more : (i j : ℕ) (b : Bool) → (b ≡ false → NoneAmong g w i j) → (b || eqb (get_or w (cell_of g (i + j) 0) 0) 36) ≡ false → NoneAmong g w i (j + 1)
  none_more i j b f e k h = go (dec_lt k j) where
    q : (b ≡ false) × (eqb (get_or w (cell_of g (i + j) 0) 0) 36 ≡ false)
    q = neither b (eqb (get_or w (cell_of g (i + j) 0) 0) 36) e

    go : Dec (k < j) → get_or w (cell_of g (i + k) 0) 0 ≡ 36 → ⊥
    go (yes l) = f q.0 k l
    go (no l) =
        let z : k ≡ j = omega arith in
        rw z (eqb-false (get_or w (cell_of g (i + j) 0) 0) 36 q.1)

  -- rows that are no references are passed
  pub any_past : (used i n : ℕ) → i + n ≤ used → NoneAmong g w i n → any_reference g w (used - i) i ≡ any_reference g w (used - (i + n)) (i + n)
  any_past used i zero h f = let z : i + 0 ≡ i = omega arith in rw z
  any_past used i (suc n) h f =
      let z : i + suc n ≡ i + n + 1 = omega arith in
      any_past used i n (omega arith) (λ k l. f k (omega arith)) ∙ any_turn used (i + n) (omega arith) refl (f n (omega arith)) ∙ rw z

  -- rows with no reference are fine and stay as they are, whatever the shared objects are
  pub none-settled : (shared : List ℕ) (left i : ℕ) → any_reference g w left i ≡ false → rows_settled g shared left i w ≡ (None, w)
  unfolding any_reference row_settled rows_settled
  none-settled shared zero i e = refl
  none-settled shared (suc left) i e = go (eqb (get_or w (cell_of g i 0) 0) 36) e (none-settled shared left (i + 1)) where
    go : (b : Bool) → cond b true (any_reference g w left (i + 1)) ≡ false
        → (any_reference g w left (i + 1) ≡ false → rows_settled g shared left (i + 1) w ≡ (None, w))
        → let o = cond b (fitted g (suited g shared w i) w i) (None, w) in onward o.0 o.1 (λ v. rows_settled g shared left (i + 1) v) ≡ (None, w)
    go true q more = differ cc
    go false q more = more q

  -- so the last pass leaves them
  pub none_left : (used : ℕ) → any_reference g w used 0 ≡ false → settle_of g w used ≡ (None, w)
  none_left used e = none-settled (drop 1 (roots_of g w used)) used 0 e
