-- What 43 says of the readers of a loaded file, and the steps of the test. Assumes nothing.
use Rattle.std.specs.Prelude.{◌≡◌, Bool, true, false, not, ◌&&◌, ◌||◌, eqb, length, drop, Option, None, Some}
use Rattle.std.proofs.Math.Path.{sym, ap}
use Rattle.std.proofs.Common.{◌∙◌, eq-eqb, ne_eqb}
use mathlib.Core.List.{List, ◌++◌}
use Prim.Native.Nat.{ℕ, suc, ◌+◌, ◌-◌, ◌<◌, ◌≤◌}
use native.Mathlib.Omega.{arith}
use Rattle.layout.specs.Rows.{Row}
use Rattle.table.specs.declared.Grid.{Grid}
use Rattle.profile.specs.Offences.{wrong_at, kind_of, detail_of, name_start, uses, unused}
use Rattle.fault_places.specs.Places.{first_place}
use Rattle.used_rows.specs.Held.{word_in, Held, Tells, Tests, kind_word, detail_word, drop_past, drop-row}

-- the first of some rows names a reader
abbrev pub names : (id : ℕ) → List Row → Bool
names id rows = eqb (detail_of rows) id && not (eqb (kind_of rows) 36)

-- the name of the first reader that no type id uses, in a file of 01's size
abbrev pub UnusedReader : (file : List ℕ) → Grid → (table : List ℕ) (used readers : ℕ) → Option ℕ → Type 0
UnusedReader file g table used readers r = length file ≤ 16777216 → (rows : List Row) → Held g table used rows → r ≡ first_place (unused file rows readers 0)

-- what is left from reader i on
abbrev pub LeftOf : (file : List ℕ) → Grid → (table : List ℕ) (used readers i : ℕ) → Type 0
LeftOf file g table used readers i = (rows : List Row) → Held g table used rows → first_place (unused file rows readers 0) ≡ first_place (unused file rows (readers - i) i)

module _ (g : Grid) (table : List ℕ) (used : ℕ) where
  module _ (row id : ℕ) where
    pub other_reader : {detail : ℕ} → Tells g table used (λ rows. word_in rows row 5) detail → (detail ≡ id → ⊥) → Tests g table used (λ rows. names id (drop row rows)) false
    other_reader t n rows d =
        let e : detail_of (drop row rows) ≡ _ = detail_word rows row ∙ sym (t rows d) in
        rw (e, ne_eqb _ id n)

    pub this_reader : {detail kind : ℕ} → Tells g table used (λ rows. word_in rows row 5) detail → detail ≡ id → Tells g table used (λ rows. word_in rows row 0) kind → {b : Bool} → b ≡ not (eqb kind 36)
        → Tests g table used (λ rows. names id (drop row rows)) b
    this_reader t q u r rows d =
        let e : detail_of (drop row rows) ≡ _ = detail_word rows row ∙ sym (t rows d) in
        let f : kind_of (drop row rows) ≡ _ = kind_word rows row ∙ sym (u rows d) in
        r ∙ rw (e, eq-eqb _ id q, f)

    module _ (there : row < used) where
      pub uses-step : {b : Bool} → Tests g table used (λ rows. names id (drop row rows)) b → (rows : List Row) → Held g table used rows
          → uses id (drop row rows) ≡ (b || uses id (drop (suc row) rows))
      unfolding uses detail_of kind_of
      uses-step t rows d =
          let e = drop-row rows row (omega (arith, d.count)) in
          let f = t rows d in
          rw (f, e.1)

    pub no_more-rows : used ≤ row → (rows : List Row) → Held g table used rows → uses id (drop row rows) ≡ false
    unfolding uses
    no_more-rows h rows d = ap (λ (l : List Row). uses id l) (drop_past rows row (omega (arith, d.count)))

module _ (file : List ℕ) (g : Grid) (table : List ℕ) (used readers i : ℕ) where
  pub all_left : i ≤ 0 → LeftOf file g table used readers i
  all_left h rows d =
      let z : i ≡ 0 = omega arith in
      let y : readers - 0 ≡ readers = omega arith in
      rw (z, y)

  pub none_left : readers ≤ i → LeftOf file g table used readers i → (rows : List Row) → Held g table used rows → None ≡ first_place (unused file rows readers 0)
  unfolding unused
  none_left h l rows d =
      let z : readers - i ≡ 0 = omega arith in
      sym (l rows d ∙ ap (λ (n : ℕ). first_place (unused file rows n i)) z)

  module _ (some : i < readers) {b : Bool} (t : Tests g table used (uses (i + 1)) b) where
    here : (rows : List Row) → Held g table used rows → unused file rows (readers - i) i ≡ wrong_at (not b) (name_start file i) ++ unused file rows (readers - (i + 1)) (i + 1)
    unfolding unused
    here rows d =
        let z : readers - i ≡ suc (readers - (i + 1)) = omega arith in
        let y : i + 1 ≡ suc i = omega arith in
        let u : b ≡ uses (suc i) rows = t rows d ∙ ap (λ (k : ℕ). uses k rows) y in
        rw (z, u, y)

    pub reader-used : b ≡ true → LeftOf file g table used readers i → LeftOf file g table used readers (i + 1)
    unfolding wrong_at
    reader-used n l rows d = l rows d ∙ ap first_place (here rows d ∙ ap (λ (c : Bool). wrong_at (not c) (name_start file i) ++ unused file rows (readers - (i + 1)) (i + 1)) n)

    pub reader-unused : {p : ℕ} → b ≡ false → p ≡ name_start file i → LeftOf file g table used readers i → (rows : List Row) → Held g table used rows → Some p ≡ first_place (unused file rows readers 0)
    unfolding wrong_at
    reader-unused n e l rows d =
        sym (l rows d ∙ ap first_place (here rows d ∙ ap (λ (c : Bool). wrong_at (not c) (name_start file i) ++ unused file rows (readers - (i + 1)) (i + 1)) n) ∙ ap Some (sym e))
