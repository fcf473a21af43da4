-- What 44 says of the readers of a loaded file, and the steps of the test. Assumes nothing.
use Rattle.std.specs.Prelude.{◌≡◌, Bool, true, false, ◌||◌, get_or, Option, None, Some, Err}
use Rattle.std.proofs.Math.Path.{refl, sym, ap}
use Rattle.std.proofs.Common.{subst, ◌∙◌}
use mathlib.Core.List.{List, [], ◌∷◌, ◌++◌}
use Prim.Native.Nat.{ℕ, zero, suc, ◌+◌, ◌-◌, ◌<◌, ◌≤◌}
use native.Mathlib.Omega.{arith}
use Rattle.std.proofs.Math.ListN.{length, drop}
use Rattle.std.proofs.Math.Seq.{drop-cons}
use Rattle.laws.specs.Small.{differ}
use Rattle.layout.specs.Target.{Target, object}
use Rattle.layout.specs.EnumList.{EnumEntry}
use Rattle.reading.specs.Answer.{Answer, refused, read}
use Rattle.reading.specs.Rules.{same, same_true, same_refl}
use Rattle.reading.specs.File.{lists_at}
use Rattle.targets.specs.Code.{Stands}
use Rattle.targets.specs.Place.{equal_at}
use Rattle.targets.specs.Laws.{equal_then, then_equal}
use Rattle.readers.specs.Judged.{judged_name}
use Rattle.readers.specs.Parts.{up_to}
use Rattle.readers.specs.Left.{codes_for, enough}
use Rattle.readers.specs.Room.{suffice, suffice-refused, all_suffice}
use Rattle.readers.specs.Whole.{short_file_lem}
use Rattle.readers.specs.declared.Unlisted.{Unlisted}
use Rattle.readers.specs.declared.Unlisted.TheVariants.{Refused, NoRoom}
use Rattle.readers.specs.Contract.{lists_of, ListsRead, ReadsLists}
use Rattle.profile.specs.Offences.{wrong_at, name_start, among, doubled}
use Rattle.fault_places.specs.Places.{first_place}

-- the targets of readers stand in the codes
abbrev pub TargetsStand : (file codes targets : List ℕ) → List Target → Type 0
TargetsStand file codes targets readers = (i : ℕ) → i < length readers → Stands file codes (get_or targets i 0) (get_or readers i object)

-- the first i readers, the last of them first
unfoldable pub before : List Target → ℕ → List Target
before readers zero = []
before readers (suc i) = get_or readers i object ∷ before readers i

abbrev pub AmongEarlier : (file codes targets : List ℕ) (j : ℕ) → Bool → Type 0
AmongEarlier file codes targets j r = (readers : List Target) → TargetsStand file codes targets readers → j < length readers → r ≡ among (get_or readers j object) (before readers j)

abbrev pub FirstDouble : (file codes targets : List ℕ) (count : ℕ) → Option ℕ → Type 0
FirstDouble file codes targets count r =
    length file ≤ 16777216 → (readers : List Target) → TargetsStand file codes targets readers → count ≡ length readers → r ≡ first_place (doubled file [] readers 0)

abbrev pub DoubledReader : List EnumEntry → (file : List ℕ) → Option ℕ → Type 0
DoubledReader es file r =
    length file ≤ 16777216 → (names : List (List ℕ)) (readers : List Target) (shared next : ℕ) → lists_at (judged_name es) file 10 ≡ read (names, readers, shared) next
    → r ≡ first_place (doubled file [] readers 0)

-- ---- Steps

-- the test says whether two targets are equal
pub equal_is : {file codes : List ℕ} {a b : ℕ} {t u : Target} → Stands file codes a t → Stands file codes b u → equal_at file codes a b ≡ same t u
equal_is {file} {codes} {a} {b} {t} {u} p q = go (equal_at file codes a b) (same t u) refl refl where
  go : (x y : Bool) → equal_at file codes a b ≡ x → same t u ≡ y → x ≡ y
  go true true e f = refl
  go false false e f = refl
  go true false e f =
      let z = equal_then p q e in
      let n : true ≡ false = sym (same_refl u) ∙ (rw z at f) in
      differ cc
  go false true e f =
      let z = same_true t u f in
      let n : true ≡ false = sym (then_equal (rw z at p) q) ∙ e in
      differ cc

-- none of the readers from i to j has the target
abbrev pub NoneSince : (file codes targets : List ℕ) (j i : ℕ) → Type 0
NoneSince file codes targets j i =
    (readers : List Target) → TargetsStand file codes targets readers → j < length readers → among (get_or readers j object) (before readers j) ≡ among (get_or readers j object) (before readers i)

module _ (file codes targets : List ℕ) (j i : ℕ) (some : 0 < i) (le : i ≤ j) {other own : ℕ} (o : other ≡ get_or targets (i - 1) 0) (w : own ≡ get_or targets j 0) {r : Bool} (e : r ≡ equal_at file codes other own) where
  here : (readers : List Target) → TargetsStand file codes targets readers → j < length readers
      → among (get_or readers j object) (before readers i) ≡ (r || among (get_or readers j object) (before readers (i - 1)))
  unfolding before among
  here readers s h =
      let z : i ≡ suc (i - 1) = omega arith in
      let t : r ≡ same (get_or readers (i - 1) object) (get_or readers j object) = e ∙ rw (o, w) (equal_is (s (i - 1) (omega arith)) (s j h)) in
      ap (λ (k : ℕ). among (get_or readers j object) (before readers k)) z ∙ ap (λ (b : Bool). b || among (get_or readers j object) (before readers (i - 1))) (sym t)

  pub one_equal : r ≡ true → NoneSince file codes targets j i → AmongEarlier file codes targets j true
  one_equal q n readers s h = sym (n readers s h ∙ here readers s h ∙ ap (λ (b : Bool). b || among (get_or readers j object) (before readers (i - 1))) q)

  pub one_other : r ≡ false → NoneSince file codes targets j i → NoneSince file codes targets j (i - 1)
  one_other q n readers s h = n readers s h ∙ here readers s h ∙ ap (λ (b : Bool). b || among (get_or readers j object) (before readers (i - 1))) q

pub none_equal : (file codes targets : List ℕ) (j i : ℕ) → i ≤ 0 → NoneSince file codes targets j i → AmongEarlier file codes targets j false
unfolding before among
none_equal file codes targets j i h n readers s l =
    let z : i ≡ 0 = omega arith in
    sym (n readers s l ∙ ap (λ (k : ℕ). among (get_or readers j object) (before readers k)) z)

-- what is left from reader j on
abbrev pub LeftOf : (file codes targets : List ℕ) (count j : ℕ) → Type 0
LeftOf file codes targets count j =
    (readers : List Target) → TargetsStand file codes targets readers → count ≡ length readers → first_place (doubled file [] readers 0) ≡ first_place (doubled file (before readers j) (drop j readers) j)

module _ (file codes targets : List ℕ) (count : ℕ) where
  pub none_passed : LeftOf file codes targets count 0
  unfolding before
  none_passed readers s e = refl

  pub all_passed : (j : ℕ) → count ≤ j → LeftOf file codes targets count j → (readers : List Target) → TargetsStand file codes targets readers → count ≡ length readers → None ≡ first_place (doubled file [] readers 0)
  unfolding doubled
  all_passed j h l readers s e = sym (l readers s e ∙ ap (λ (x : List Target). first_place (doubled file (before readers j) x j)) (nothing readers j (omega arith))) where
    nothing : (l : List Target) (i : ℕ) → length l ≤ i → drop i l ≡ []
    nothing [] zero h = refl
    nothing [] (suc i) h = refl
    nothing (x ∷ l) zero h = absurd (omega arith)
    nothing (x ∷ l) (suc i) h = nothing l i (omega arith)

  module _ (j : ℕ) (some : j < count) {b : Bool} (t : AmongEarlier file codes targets j b) where
    step : (readers : List Target) → TargetsStand file codes targets readers → count ≡ length readers
        → doubled file (before readers j) (drop j readers) j ≡ wrong_at b (name_start file j) ++ doubled file (before readers (j + 1)) (drop (j + 1) readers) (j + 1)
    unfolding doubled before
    step readers s e =
        let d = drop-cons readers j object (omega arith) in
        let z : j + 1 ≡ suc j = omega arith in
        let u : b ≡ among (get_or readers j object) (before readers j) = t readers s (omega arith) in
        rw (d, u, z)

    pub reader_other : b ≡ false → LeftOf file codes targets count j → LeftOf file codes targets count (j + 1)
    unfolding wrong_at
    reader_other n l readers s e =
        l readers s e ∙ ap first_place (step readers s e ∙ ap (λ (c : Bool). wrong_at c (name_start file j) ++ doubled file (before readers (j + 1)) (drop (j + 1) readers) (j + 1)) n)

    pub reader-doubled : {p : ℕ} → b ≡ true → p ≡ name_start file j → LeftOf file codes targets count j
        → (readers : List Target) → TargetsStand file codes targets readers → count ≡ length readers → Some p ≡ first_place (doubled file [] readers 0)
    unfolding wrong_at
    reader-doubled n q l readers s e =
        sym (l readers s e ∙ ap first_place (step readers s e ∙ ap (λ (c : Bool). wrong_at c (name_start file j) ++ doubled file (before readers (j + 1)) (drop (j + 1) readers) (j + 1)) n) ∙ ap Some (sym q))

-- ---- What reading the lists answered

-- where so many codes suffice
abbrev pub DoubledIn : List EnumEntry → (file : List ℕ) (room : ℕ) → Option ℕ → Type 0
DoubledIn es file room r = enough file 10 room ≡ true → DoubledReader es file r

module _ (es : List EnumEntry) (file : List ℕ) where
  -- few readers, a count that is refused, and many
  pub few_readers : {r : Option ℕ} {n next : ℕ} → up_to 64 file 10 ≡ read n next → n ≤ 8 → DoubledIn es file 850 r → DoubledReader es file r
  unfolding codes_for
  few_readers e h f s = f (suffice file 10 8 s e h) s

  pub no_readers : {r : Option ℕ} {n p : ℕ} → up_to 64 file 10 ≡ refused n p → DoubledIn es file 850 r → DoubledReader es file r
  no_readers e f s = f (suffice-refused file 10 850 s e) s

  pub many_readers : {r : Option ℕ} → DoubledIn es file 6058 r → DoubledReader es file r
  unfolding codes_for
  many_readers f = f (all_suffice file 10)

  pub no_lists : (codes codes' targets starts : List ℕ) (total : ℕ → ℕ) (room : ℕ) (x : Unlisted) → ReadsLists (lists_of es file 10) total (enough file 10 room) file codes codes' targets starts (Err x)
      → DoubledIn es file room None
  no_lists codes codes' targets starts total room NoRoom w t h names readers shared next q = let n : true ≡ false = sym t ∙ w in differ cc
  no_lists codes codes' targets starts total room (Refused e) w t h names readers shared next q = let z = sym w.1 ∙ short_file_lem es file 10 h ∙ q in differ cc

  pub lists_double : {codes codes' targets starts : List ℕ} {count sh nx : ℕ} (r : Option ℕ) → ListsRead (lists_of es file 10) file codes codes' targets starts count sh nx
      → FirstDouble file codes' targets count r → DoubledReader es file r
  lists_double {codes} {codes'} {targets} r w f h names readers shared next q =
      let z = sym w.answer ∙ short_file_lem es file 10 h ∙ q in
      let e : w.readers ≡ readers = ap targets_read z in
      f h readers (subst (λ (x : List Target). TargetsStand file codes' targets x) e w.listed.stands) (w.listed.counts ∙ ap length e) where
        targets_read : Answer (List (List ℕ) × List Target × ℕ) → List Target
        targets_read (refused k p) = []
        targets_read (read l n) = l.1
