-- What the tests of a time lookup say. Assumes nothing.
use mathlib.Core.Path.{◌≡◌}
use mathlib.Core.List.{List}
use Prim.Native.Nat.{ℕ}
use lib.IntN.{ℤ}
use lib.ListN.{get_or}
use borrow.Author.Tests.{eq-eqb, ne_eqb}
use Rattle.table.specs.declared.Grid.{Grid}
use Rattle.table.specs.Grids.{cell_of}
use Rattle.ticks.specs.Split.{split_of}
use Rattle.std.specs.Prelude.{Ok, Err}
use Rattle.answers.specs.declared.Refusal.{Refusal}
use Rattle.answers.specs.Refusals.{refusal}
use Rattle.lookups.specs.Parts.{kind_of}
use Rattle.lookups.specs.Signs.{signed_of}
use Rattle.lookups.specs.Times.{as_time, time_of}

module _ (g : Grid) (file words : List ℕ) (row : ℕ) where
  pub time-refused : {r : Refusal} → Err r ≡ signed_of g file words row → Err r ≡ time_of g file words row
  unfolding time_of as_time
  time-refused e = rw (← e)

  module _ {t : ℤ} {kind : ℕ} (e : Ok t ≡ signed_of g file words row) (k : kind ≡ get_or words (cell_of g row 0) 0) where
    pub no_time : (kind ≡ 20 → ⊥) → Err (refusal 24 row) ≡ time_of g file words row
    unfolding time_of as_time kind_of
    no_time h = rw (← e, ← k, ne_eqb kind 20 h)

    pub a_time : kind ≡ 20 → Ok (split_of t) ≡ time_of g file words row
    unfolding time_of as_time kind_of
    a_time h = rw (← e, ← k, eq-eqb kind 20 h)
