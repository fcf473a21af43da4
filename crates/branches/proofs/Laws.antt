-- The tests of the row behind a row, one after the other. Assumes nothing.
use mathlib.Core.Path.{◌≡◌}
use mathlib.Core.List.{List}
use Prim.Native.Nat.{ℕ, ◌+◌, ◌-◌, ◌<◌, ◌≤◌}
use native.Mathlib.Omega.{arith}
use borrow.Author.Tests.{lt-ltb, le-ltb, le-leb, lt-leb}
use Rattle.table.specs.declared.Grid.{Grid}
use Rattle.branches.specs.Next.{branch_in, next_of}

module _ (g : Grid) (words : List ℕ) (row : ℕ) where
  pub no_row : g.room ≤ row → 0 ≡ next_of g words row
  unfolding next_of
  no_row h = rw (le-ltb row g.room h)

  module _ {b : ℕ} (there : row < g.room) (is : b ≡ branch_in g words row) where
    pub none : b ≡ 0 → 0 ≡ next_of g words row
    unfolding next_of
    none e = rw (lt-ltb row g.room there, ← is, e)

    pub past : (b ≡ 0 → ⊥) → g.room - row < b → 0 ≡ next_of g words row
    unfolding next_of
    past n h = rw (lt-ltb row g.room there, ← is, lt-ltb 0 b (omega arith), lt-leb (row + b) g.room (omega arith))

    pub behind : (b ≡ 0 → ⊥) → b ≤ g.room - row → row + b ≡ next_of g words row
    unfolding next_of
    behind n h = rw (lt-ltb row g.room there, ← is, lt-ltb 0 b (omega arith), le-leb (row + b) g.room (omega arith))
