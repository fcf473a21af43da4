-- Which of the seven-bit numbers at some places is not shortest, and the steps of the search. Assumes nothing.
use Rattle.std.specs.Prelude.{◌≡◌, Bool, not, ℕ, suc, ◌+◌, ◌*◌, ◌-◌, ◌<◌, ◌≤◌, eqb, length, drop, Option, Result, Ok, Err, MatchOption, None, Some}
use Rattle.std.proofs.Math.Path.{refl, sym, ap}
use Rattle.std.proofs.Common.{◌∙◌, eq-eqb, ne_eqb}
use Rattle.std.proofs.Math.Bool.{true, false}
use mathlib.Core.List.{List, [], ◌∷◌, ◌++◌, append_assoc}
use native.Mathlib.Omega.{arith}
use Rattle.laws.specs.Small.{differ}
use Rattle.layout.specs.Rows.{Row}
use Rattle.layout.specs.Shortest.{numbered}
use Rattle.table.specs.declared.Grid.{Grid}
use Rattle.reading.specs.Answer.{refused}
use Rattle.reading.specs.Seven.{seven_at}
use Rattle.numbers.specs.Padded.{past, pad_of}
use Rattle.places.specs.Places.{behind_entry, id_places, raw_place, count_places, rows_places, entries_places, entries_end, lists_places, file_places}
use Rattle.profile.specs.Offences.{wrong_at, kind_of, detail_of, padded}
use Rattle.profile.specs.Profile.{first_of}
use Rattle.fault_places.specs.Places.{first_place, or_else, first_append, fine-none}
use Rattle.used_rows.specs.Held.{word_in, Held, Tells, kind_word, first_word, detail_word, drop_past, drop-row}
use Rattle.number_rules.specs.declared.Entry.{Entry}
use Rattle.number_rules.specs.Entries.{EntryAt}

-- the first of the numbers at some places that is not shortest
abbrev pub NumbersFound : (file places : List ℕ) → Option ℕ → Type 0
NumbersFound file places r = r ≡ first_place (padded file places)

-- of a value
unfoldable pub row_numbers : (file : List ℕ) (kind first detail : ℕ) → List ℕ
row_numbers file kind first detail = id_places file kind first detail ++ count_places file kind (raw_place file kind first detail)

-- of the first of some rows
unfoldable pub first_numbers : (file : List ℕ) → List Row → List ℕ
first_numbers file [] = []
first_numbers file (r ∷ rows) = row_numbers file r.kind r.first r.detail

abbrev pub RowFound : (file : List ℕ) → Grid → (table : List ℕ) (used row : ℕ) → Option ℕ → Type 0
RowFound file g table used row r = (rows : List Row) → Held g table used rows → r ≡ first_place (padded file (first_numbers file (drop row rows)))

abbrev pub RowsFound : (file : List ℕ) → Grid → (table : List ℕ) (used : ℕ) → Option ℕ → Type 0
RowsFound file g table used r = (rows : List Row) → Held g table used rows → r ≡ first_place (padded file (rows_places file rows))

-- of the lengths of names, in a file of 01's size
abbrev pub Passes : (file : List ℕ) (readers from : ℕ) → Result ℕ ℕ → Type 0
Passes file readers from (Ok end) = (padded file (entries_places file readers from) ≡ []) × (end ≡ entries_end file readers from)
Passes file readers from (Err p) = Some p ≡ first_place (padded file (entries_places file readers from))

abbrev pub EntriesFound : (file : List ℕ) (readers from : ℕ) → Result ℕ ℕ → Type 0
EntriesFound file readers from r = length file ≤ 16777216 → from ≤ 8589934592 → Passes file readers from r

abbrev pub ListsFound : (file : List ℕ) (readers : ℕ) → Option ℕ → Type 0
ListsFound file readers r = length file ≤ 16777216 → r ≡ first_place (padded file (lists_places file readers 10))

-- of the whole file
abbrev pub PaddedNumber : (file : List ℕ) → Grid → (table : List ℕ) (used readers : ℕ) → Option ℕ → Type 0
PaddedNumber file g table used readers r = length file ≤ 16777216 → (rows : List Row) → Held g table used rows → r ≡ first_place (padded file (file_places file readers rows))

-- ---- Laws

module _ (file : List ℕ) where
  padded_append : (a b : List ℕ) → padded file (a ++ b) ≡ padded file a ++ padded file b
  unfolding padded
  padded_append [] b = refl
  padded_append (at ∷ a) b =
      let here = wrong_at (not (eqb (pad_of (seven_at file at) at) 0)) at in
      ap (λ (l : List ℕ). here ++ l) (padded_append a b) ∙ sym (append_assoc here (padded file a) (padded file b))

  pub first_of_lem : (a b : List ℕ) → first_place (padded file (a ++ b)) ≡ or_else (first_place (padded file a)) (first_place (padded file b))
  first_of_lem a b = ap first_place (padded_append a b) ∙ first_append (padded file a) (padded file b)

  pub found_first : (a b : List ℕ) {p : ℕ} → Some p ≡ first_place (padded file a) → Some p ≡ first_place (padded file (a ++ b))
  found_first a b {p} e = sym (first_of_lem a b ∙ ap (λ (x : Option ℕ). or_else x (first_place (padded file b))) (sym e))

  pub found_second : (a b : List ℕ) (r : Option ℕ) → None ≡ first_place (padded file a) → r ≡ first_place (padded file b) → r ≡ first_place (padded file (a ++ b))
  found_second a b r e f = f ∙ sym (first_of_lem a b ∙ ap (λ (x : Option ℕ). or_else x (first_place (padded file b))) (sym e))

  -- the first of some, or else of others
  pub found_either : (a b : List ℕ) {x r : Option ℕ} {Q : Type 0} → x ≡ first_place (padded file a) → MatchOption x Q (λ p. r ≡ Some p) → (Q → r ≡ first_place (padded file b)) → r ≡ first_place (padded file (a ++ b))
  found_either a b {x = None} {r = r} e q f = found_second a b r e (f q)
  found_either a b {x = Some p} {r = r} e q f = q ∙ found_first a b e

  module _ (at : ℕ) where
    none_there : pad_of (seven_at file at) at ≡ 0 → None ≡ first_place (padded file (at ∷ []))
    unfolding padded wrong_at
    none_there e = rw (eq-eqb (pad_of (seven_at file at) at) 0 e)

    pub number-missing : {k p : ℕ} → seven_at file at ≡ refused k p → None ≡ first_place (padded file (at ∷ []))
    unfolding pad_of
    number-missing e = none_there (rw e)

    pub number_short : {pad : ℕ} → pad ≡ pad_of (seven_at file at) at → pad ≡ 0 → None ≡ first_place (padded file (at ∷ []))
    number_short e z = none_there (sym e ∙ z)

    pub number-long : {pad : ℕ} → pad ≡ pad_of (seven_at file at) at → (pad ≡ 0 → ⊥) → Some at ≡ first_place (padded file (at ∷ []))
    unfolding padded wrong_at
    number-long e n = rw (ne_eqb (pad_of (seven_at file at) at) 0 (λ z. n (e ∙ z)))

  pub no_count : (kind at : ℕ) → (kind ≡ 13 → ⊥) → None ≡ first_place (padded file (count_places file kind at))
  unfolding count_places padded
  no_count kind at n = rw (ne_eqb kind 13 n)

  pub a_count : (kind at : ℕ) {r : Option ℕ} → kind ≡ 13 → r ≡ first_place (padded file (at ∷ [])) → r ≡ first_place (padded file (count_places file kind at))
  unfolding count_places
  a_count kind at e f = rw (eq-eqb kind 13 e) f

  module _ (kind first detail : ℕ) where
    pub without_id : (b : Bool) (r : Option ℕ) → b ≡ numbered kind detail → b ≡ false → r ≡ first_place (padded file (count_places file kind first)) → r ≡ first_place (padded file (row_numbers file kind first detail))
    unfolding row_numbers id_places raw_place
    without_id true r e t f = differ cc
    without_id false r e t f = rw (← e) f

    pub with_id : (b : Bool) {x r : Option ℕ} {Q : Type 0} → b ≡ numbered kind detail → b ≡ true → x ≡ first_place (padded file (first ∷ []))
        → MatchOption x Q (λ p. r ≡ Some p) → (Q → r ≡ first_place (padded file (count_places file kind (past (seven_at file first) first)))) → r ≡ first_place (padded file (row_numbers file kind first detail))
    unfolding row_numbers id_places raw_place
    with_id true e t f m h = rw (← e) (found_either (first ∷ []) (count_places file kind (past (seven_at file first) first)) f m h)
    with_id false e t f m h = differ cc

module _ (file : List ℕ) (g : Grid) (table : List ℕ) (used row : ℕ) (there : row < used) where
  pub row_found : {kind first detail : ℕ} (r : Option ℕ) → Tells g table used (λ rows. word_in rows row 0) kind → Tells g table used (λ rows. word_in rows row 1) first → Tells g table used (λ rows. word_in rows row 5) detail
      → r ≡ first_place (padded file (row_numbers file kind first detail)) → RowFound file g table used row r
  unfolding first_numbers kind_of first_of detail_of
  row_found {kind} {first} {detail} r t u v e rows d =
      let x = drop-row rows row (omega (arith, d.count)) in
      let a : x.0.kind ≡ kind = sym (ap kind_of x.1) ∙ kind_word rows row ∙ sym (t rows d) in
      let b : x.0.first ≡ first = sym (ap first_of x.1) ∙ first_word rows row ∙ sym (u rows d) in
      let c : x.0.detail ≡ detail = sym (ap detail_of x.1) ∙ detail_word rows row ∙ sym (v rows d) in
      e ∙ rw (x.1, a, b, c)

  rows_step : (rows : List Row) → Held g table used rows → rows_places file (drop row rows) ≡ first_numbers file (drop row rows) ++ rows_places file (drop (suc row) rows)
  unfolding rows_places first_numbers row_numbers
  rows_step rows d =
      let x = drop-row rows row (omega (arith, d.count)) in
      rw x.1 (sym (append_assoc (id_places file x.0.kind x.0.first x.0.detail) (count_places file x.0.kind (raw_place file x.0.kind x.0.first x.0.detail)) (rows_places file (drop (suc row) rows))))

  -- the rows from this one on
  pub row_fine : RowFound file g table used row None → (rows : List Row) → Held g table used rows
      → first_place (padded file (rows_places file (drop row rows))) ≡ first_place (padded file (rows_places file (drop (row + 1) rows)))
  row_fine f rows d =
      let z : row + 1 ≡ suc row = omega arith in
      rw z (ap (λ (l : List ℕ). first_place (padded file l)) (rows_step rows d)
      ∙ sym (found_second file (first_numbers file (drop row rows)) (rows_places file (drop (suc row) rows)) (first_place (padded file (rows_places file (drop (suc row) rows)))) (f rows d) refl))

  pub row-wrong : {p : ℕ} → RowFound file g table used row (Some p) → (rows : List Row) → Held g table used rows → Some p ≡ first_place (padded file (rows_places file (drop row rows)))
  row-wrong f rows d =
      found_first file (first_numbers file (drop row rows)) (rows_places file (drop (suc row) rows)) (f rows d) ∙ sym (ap (λ (l : List ℕ). first_place (padded file l)) (rows_step rows d))

pub no_more-rows : (file : List ℕ) (g : Grid) (table : List ℕ) (used row : ℕ) → used ≤ row → (rows : List Row) → Held g table used rows → first_place (padded file (rows_places file (drop row rows))) ≡ None
unfolding rows_places padded
no_more-rows file g table used row h rows d = ap (λ (l : List Row). first_place (padded file (rows_places file l))) (drop_past rows row (omega (arith, d.count)))

-- ---- The reader list

-- so many readers are left, the first of them at `at`
pub record Reached (file : List ℕ) (readers from left at : ℕ) : Type 0 where
  pub few : left ≤ readers
  pub near : at ≤ 8589934592 + 4 * (readers - left)
  pub same : padded file (entries_places file readers from) ≡ padded file (entries_places file left at)
  pub ends : entries_end file readers from ≡ entries_end file left at

module _ (file : List ℕ) (readers from : ℕ) where
  pub none_reached : from ≤ 8589934592 → Reached file readers from readers from
  none_reached h = record { few = omega arith; near = omega arith; same = refl; ends = refl }

  module _ (left at : ℕ) (w : Reached file readers from left at) where
    pub all_reached : left ≤ 0 → Passes file readers from (Ok at)
    unfolding entries_places entries_end padded
    all_reached h =
        let z : left ≡ 0 = omega arith in
        (w.same ∙ ap (λ (n : ℕ). padded file (entries_places file n at)) z, sym (w.ends ∙ ap (λ (n : ℕ). entries_end file n at) z))

    module _ (some : 0 < left) where
      one_left : left ≡ suc (left - 1)
      one_left = omega arith

      places_left : entries_places file left at ≡ (at ∷ []) ++ entries_places file (left - 1) (behind_entry (seven_at file at) at)
      unfolding entries_places
      places_left = ap (λ (n : ℕ). entries_places file n at) one_left

      pub entry-wrong : {p : ℕ} → Some p ≡ first_place (padded file (at ∷ [])) → Passes file readers from (Err p)
      entry-wrong e =
          found_first file (at ∷ []) (entries_places file (left - 1) (behind_entry (seven_at file at) at)) e ∙ sym (ap first_place w.same ∙ ap (λ (l : List ℕ). first_place (padded file l)) places_left)

      pub one_reached : (e : Entry) → EntryAt file at e → None ≡ first_place (padded file (at ∷ [])) → Reached file readers from (left - 1) e.next
      unfolding entries_end
      one_reached e x f = record {
        few = omega (arith, w.few);
        near = omega (arith, w.few, w.near, x.near);
        same =
            rw x.next_is (w.same ∙ ap (padded file) places_left ∙ padded_append file (at ∷ []) (entries_places file (left - 1) (behind_entry (seven_at file at) at))
            ∙ ap (λ (l : List ℕ). l ++ padded file (entries_places file (left - 1) (behind_entry (seven_at file at) at))) (fine-none (padded file (at ∷ [])) f));
        ends = rw x.next_is (w.ends ∙ ap (λ (n : ℕ). entries_end file n at) one_left);
      }

module _ (file : List ℕ) (readers : ℕ) where
  lists_are : lists_places file readers 10 ≡ (10 ∷ []) ++ (entries_places file readers (past (seven_at file 10) 10) ++ (entries_end file readers (past (seven_at file 10) 10) ∷ []))
  unfolding lists_places
  lists_are = refl

  pub count-wrong : {p : ℕ} → Some p ≡ first_place (padded file (10 ∷ [])) → Some p ≡ first_place (padded file (lists_places file readers 10))
  unfolding lists_places
  count-wrong e = found_first file (10 ∷ []) (entries_places file readers (past (seven_at file 10) 10) ++ (entries_end file readers (past (seven_at file 10) 10) ∷ [])) e

  module _ (f : None ≡ first_place (padded file (10 ∷ []))) where
    pub length-wrong : {p : ℕ} → Some p ≡ first_place (padded file (entries_places file readers (past (seven_at file 10) 10))) → Some p ≡ first_place (padded file (lists_places file readers 10))
    unfolding lists_places
    length-wrong {p} e =
        let start = past (seven_at file 10) 10 in
        found_second file (10 ∷ []) (entries_places file readers start ++ (entries_end file readers start ∷ [])) (Some p) f (found_first file (entries_places file readers start) (entries_end file readers start ∷ []) e)

    pub shared_found : {end : ℕ} (r : Option ℕ) → (padded file (entries_places file readers (past (seven_at file 10) 10)) ≡ []) → end ≡ entries_end file readers (past (seven_at file 10) 10)
        → r ≡ first_place (padded file (end ∷ [])) → r ≡ first_place (padded file (lists_places file readers 10))
    unfolding lists_places
    shared_found r n e g =
        let start = past (seven_at file 10) 10 in
        found_second file (10 ∷ []) (entries_places file readers start ++ (entries_end file readers start ∷ [])) r f
        (found_second file (entries_places file readers start) (entries_end file readers start ∷ []) r (sym (ap first_place n)) (g ∙ ap (λ (k : ℕ). first_place (padded file (k ∷ []))) e))

  pub in_lists : (rows : List Row) {p : ℕ} → Some p ≡ first_place (padded file (lists_places file readers 10)) → Some p ≡ first_place (padded file (file_places file readers rows))
  unfolding file_places
  in_lists rows e = found_first file (lists_places file readers 10) (rows_places file rows) e

  pub in_rows : (rows : List Row) (r : Option ℕ) → None ≡ first_place (padded file (lists_places file readers 10)) → r ≡ first_place (padded file (rows_places file rows)) → r ≡ first_place (padded file (file_places file readers rows))
  unfolding file_places
  in_rows rows r e f = found_second file (lists_places file readers 10) (rows_places file rows) r e f

-- ---- What passing the readers answered

module _ (file : List ℕ) (readers from : ℕ) (start : from ≡ past (seven_at file 10) 10) (r : Result ℕ ℕ) where
  pub passed-wrong : {p : ℕ} → r ≡ Err p → Passes file readers from r → Some p ≡ first_place (padded file (entries_places file readers (past (seven_at file 10) 10)))
  passed-wrong {p} e w =
      let x : Passes file readers from (Err p) = rw e at w in
      x ∙ ap (λ (k : ℕ). first_place (padded file (entries_places file readers k))) start

  pub passed-end : {end : ℕ} → r ≡ Ok end → Passes file readers from r
      → (padded file (entries_places file readers (past (seven_at file 10) 10)) ≡ []) × (end ≡ entries_end file readers (past (seven_at file 10) 10))
  passed-end {end} e w =
      let x : Passes file readers from (Ok end) = rw e at w in
      (ap (λ (k : ℕ). padded file (entries_places file readers k)) (sym start) ∙ x.0, x.1 ∙ ap (entries_end file readers) start)
