-- Null references cleared before the kinds of the roots are looked up: where there is room, no mark is a kind or a parent. Assumes nothing.
use Rattle.std.specs.Prelude.{Option, None}
use mathlib.Core.Path.{◌≡◌, refl, sym, ap, ◌∙◌}
use mathlib.Core.Bool.{Bool, true, false, cond}
use mathlib.Core.List.{List}
use Prim.Native.Nat.{ℕ, zero, suc, ◌+◌, ◌≤◌, ◌<◌}
use native.Mathlib.Omega.{arith}
use lib.Dec.{eqb}
use lib.ListN.{get_or, drop, set}
use lib.Seq.{get_or-set_other}
use borrow.Author.Tests.{eqb-true}
use Rattle.laws.specs.Small.{differ}
use Rattle.layout.specs.Table.{Shape, by_rows, by_columns, shape_of, cell}
use Rattle.reading.specs.Drafts.{resource}
use Rattle.reading.specs.Resource.{suit, suits}
use Rattle.table.specs.declared.Grid.{Grid}
use Rattle.table.specs.Grids.{cell_of}
use Rattle.resources.specs.Total.{roots_from, roots_of, fitted, suited, row_settled, settle_from, nulled, null_cleared}
use Rattle.resources.proofs.Turns.{rows-turn, rows_end}

-- the mark of a row is neither the parent nor the kind of any row
mark-apart : (s : Shape) (room i k : ℕ) → i < room → k < room
    → (cell s room k 4 ≡ cell s room i 3 → ⊥) × (cell s room k 0 ≡ cell s room i 3 → ⊥)
unfolding cell
mark-apart by_rows room i k h l = (λ e. omega arith, λ e. omega arith)
mark-apart by_columns room i k h l = (λ e. omega arith, λ e. omega arith)

null_suits : (shared : List ℕ) (wanted id : ℕ) → eqb id 0 ≡ true → suits shared (resource wanted) id ≡ true
unfolding suits suit
null_suits shared wanted zero e = refl
null_suits shared wanted (suc id) e = absurd (omega (arith, eqb-true (suc id) 0 e))

module _ (g : Grid) where
  -- a mark that is cleared changes no root
  mark_roots : (w : List ℕ) (i left k : ℕ) → i < g.room → k + left ≤ g.room → roots_from g (set w (cell_of g i 3) 0) left k ≡ roots_from g w left k
  unfolding roots_from
  mark_roots w i zero k h l = refl
  mark_roots w i (suc left) k h l =
      let a = mark-apart (shape_of g.columns) g.room i k h (omega arith) in
      rw (
        get_or-set_other w (cell_of g i 3) (cell_of g k 4) 0 0 a.0,
        get_or-set_other w (cell_of g i 3) (cell_of g k 0) 0 0 a.1,
        mark_roots w i left (k + 1) h (omega arith),
      )

  module _ (w : List ℕ) (i : ℕ) where
    -- and so the roots stay, whatever row i is
    null_roots : (used : ℕ) → i < g.room → used ≤ g.room → roots_from g (null_cleared g w i).1 used 0 ≡ roots_from g w used 0
    unfolding null_cleared
    null_roots used h l = go (eqb (get_or w (cell_of g i 0) 0) 36) (eqb (get_or w (cell_of g i 5) 0) 0) where
      go : (a b : Bool) → roots_from g (nulled g a b w i).1 used 0 ≡ roots_from g w used 0
      go true true = mark_roots w i used 0 h (omega arith)
      go true false = refl
      go false b = refl

    -- a row that names no resource is fine
    null_row : (shared : List ℕ) → (null_cleared g w i).0 ≡ false → row_settled g shared w i ≡ (None, (null_cleared g w i).1)
    unfolding null_cleared row_settled
    null_row shared e = go (eqb (get_or w (cell_of g i 0) 0) 36) (eqb (get_or w (cell_of g i 5) 0) 0) refl e where
      go : (a b : Bool) → eqb (get_or w (cell_of g i 5) 0) 0 ≡ b → (nulled g a b w i).0 ≡ false
          → cond a (fitted g (suited g shared w i) w i) (None, w) ≡ (None, (nulled g a b w i).1)
      go true true q r = rw (null_suits shared (get_or w (cell_of g i 3) 0) (get_or w (cell_of g i 5) 0) q)
      go true false q r = differ cc
      go false b q r = refl

    -- a row that names a resource stays
    pub named-row : (null_cleared g w i).0 ≡ true → (null_cleared g w i).1 ≡ w
    unfolding null_cleared
    named-row e = go (eqb (get_or w (cell_of g i 0) 0) 36) (eqb (get_or w (cell_of g i 5) 0) 0) e where
      go : (a b : Bool) → (nulled g a b w i).0 ≡ true → (nulled g a b w i).1 ≡ w
      go true true r = differ cc
      go true false r = refl
      go false b r = differ cc

    -- a row that names no resource is judged, and the rows behind it by the same roots
    pub null_turn : (used : ℕ) → i < used → used ≤ g.room → (null_cleared g w i).0 ≡ false
        → settle_from g w used i ≡ settle_from g (null_cleared g w i).1 used (i + 1)
    null_turn used h l e =
        let shared = drop 1 (roots_of g w used) in
        let r = sym (null_row shared e) in
        rows-turn g shared used i w h (ap (λ (p : Option ℕ × List ℕ). p.0) r) (ap (λ (p : Option ℕ × List ℕ). p.1) r)
        ∙ rw (null_roots used (omega arith) l)

    pub null_end : (used : ℕ) → used ≤ i → settle_from g w used i ≡ (None, w)
    null_end used h = rows_end g (drop 1 (roots_of g w used)) used i w h
