-- 41 to 47 in their order, over a loaded file. Assumes nothing.
use Rattle.std.specs.Prelude.{◌≡◌, Option, None, Some, Result, Ok, Err}
use Rattle.std.proofs.Math.Path.{refl, sym, ap}
use Rattle.std.proofs.Common.{◌∙◌, arith, eq-eqb, ne_eqb}
use mathlib.Core.List.{List, [], ◌∷◌}
use Prim.Native.Nat.{ℕ, zero, suc, ◌≤◌}
use Rattle.std.proofs.Math.ListN.{length, get_or}
use Rattle.laws.specs.Small.{differ}
use Rattle.layout.specs.Target.{Target}
use Rattle.layout.specs.EnumList.{EnumEntry}
use Rattle.layout.specs.Rows.{Row}
use Rattle.table.specs.declared.Grid.{Grid}
use Rattle.reading.specs.Answer.{read}
use Rattle.reading.specs.File.{lists_at}
use Rattle.readers.specs.Judged.{judged_name}
use Rattle.places.specs.Places.{file_places}
use Rattle.places.specs.Padding.{file_padding}
use Rattle.profile.specs.Offences.{first, first_lowest, wrong_at, other_platform, padded, unused, doubled, repeated, no_page, nextless, fine, fault, from47, from46, from45, from44, from43, from42, fault_of, Offence}
use Rattle.profile.specs.Rules.{none-padded}
use Rattle.answers.specs.declared.Refusal.{Refusal}
use Rattle.answers.specs.Refusals.{refusal}
use Rattle.fault_places.specs.Places.{first_place, lowest_place, first_fault, first_right, lowest-fault, lowest_right}
use Rattle.used_rows.specs.Held.{Held, Finds}
use Rattle.reader_rules.specs.Readers.{UnusedReader}
use Rattle.target_rules.specs.Doubled.{DoubledReader}
use Rattle.key_repeats.specs.Steps.{Few, RepeatedKeys}

-- what testing rules answers
abbrev pub Kept : Type 0
Kept = Result (Unit {0}) Refusal

-- a rule that is kept, or is refused at the place where it is broken
abbrev pub kept : (number : ℕ) → Option ℕ → Kept
kept number None = Ok tt
kept number (Some place) = Err (refusal number place)

abbrev pub to_fault : Kept → Offence
to_fault (Ok u) = fine
to_fault (Err e) = fault e.number e.place

-- what is known of a file that the plain loader accepted: its rows stand in the table, and its readers have these targets
pub record Accepted (es : List EnumEntry) (file : List ℕ) (g : Grid) (table : List ℕ) (used readers padding : ℕ) (targets : List Target) (rows : List Row) : Type 0 where
  pub held : Held g table used rows
  pub few : Few rows
  pub short : length file ≤ 16777216
  pub count : readers ≡ length targets
  pub pads : padding ≡ file_padding file readers rows
  pub names : List (List ℕ)
  pub shared : ℕ
  pub next : ℕ
  pub listed : lists_at (judged_name es) file 10 ≡ read (names, targets, shared) next

abbrev pub From47 : Grid → (table : List ℕ) (used : ℕ) → Kept → Type 0
From47 g table used r = (rows : List Row) → Held g table used rows → to_fault r ≡ from47 rows

abbrev pub From46 : Grid → (table : List ℕ) (used : ℕ) → Kept → Type 0
From46 g table used r = (rows : List Row) → Held g table used rows → to_fault r ≡ from46 rows

abbrev pub From45 : (file : List ℕ) → Grid → (table : List ℕ) (used : ℕ) → Kept → Type 0
From45 file g table used r = (rows : List Row) → Held g table used rows → Few rows → to_fault r ≡ from45 file rows

abbrev pub From44 : List EnumEntry → (file : List ℕ) → Grid → (table : List ℕ) (used : ℕ) → Kept → Type 0
From44 es file g table used r =
    (readers padding : ℕ) (targets : List Target) (rows : List Row) → Accepted es file g table used readers padding targets rows → to_fault r ≡ from44 file targets rows

abbrev pub From43 : List EnumEntry → (file : List ℕ) → Grid → (table : List ℕ) (used readers : ℕ) → Kept → Type 0
From43 es file g table used readers r =
    (padding : ℕ) (targets : List Target) (rows : List Row) → Accepted es file g table used readers padding targets rows → to_fault r ≡ from43 file targets rows

abbrev pub From42 : List EnumEntry → (file : List ℕ) → Grid → (table : List ℕ) (used readers padding : ℕ) → Kept → Type 0
From42 es file g table used readers padding r =
    (targets : List Target) (rows : List Row) → Accepted es file g table used readers padding targets rows → to_fault r ≡ from42 file targets rows

abbrev pub From41 : List EnumEntry → (file : List ℕ) → Grid → (table : List ℕ) (used readers padding : ℕ) → Kept → Type 0
From41 es file g table used readers padding r =
    (targets : List Target) (rows : List Row) → Accepted es file g table used readers padding targets rows → to_fault r ≡ fault_of file targets rows

abbrev pub NumbersPadded : (file : List ℕ) → Grid → (table : List ℕ) (used readers padding : ℕ) → Option ℕ → Type 0
NumbersPadded file g table used readers padding r =
    length file ≤ 16777216 → (rows : List Row) → Held g table used rows → padding ≡ file_padding file readers rows → r ≡ first_place (padded file (file_places file readers rows))

-- ---- Steps

-- the place that a refusal names, and none where a rule is kept
place_of_refusal : (n : ℕ) {a : Option ℕ} {k : Kept} {x : Refusal} → k ≡ kept n a → k ≡ Err x → (p : ℕ) × (Some p ≡ a) × (fault n p ≡ fault x.number x.place)
place_of_refusal n {a = None} e f = differ cc
place_of_refusal n {a = Some p} {k = k} {x = x} e f = let z : refusal n p ≡ x = cc in (p, refl, ap (λ (y : Refusal). fault y.number y.place) z)

no_place : (n : ℕ) {a : Option ℕ} {k : Kept} {u : Unit {0}} → k ≡ kept n a → k ≡ Ok u → None ≡ a
no_place n {a = None} e f = refl
no_place n {a = Some p} e f = differ cc

-- what a rule adds: its fault, if it is refused, and else nothing
module _ (n : ℕ) (l : List ℕ) (y : Offence) {a : Option ℕ} {k : Kept} (kept_is : k ≡ kept n a) where
  rule_broken : {x : Refusal} → k ≡ Err x → a ≡ first_place l → fault x.number x.place ≡ first n l y
  rule_broken e w = let p = place_of_refusal n kept_is e in sym p.2 ∙ sym (first_fault n l y (p.1 ∙ w))

  rule_kept : {u : Unit {0}} → k ≡ Ok u → a ≡ first_place l → y ≡ first n l y
  rule_kept e w = sym (first_right n l y (no_place n kept_is e ∙ w))

  lowest_broken : {x : Refusal} → k ≡ Err x → a ≡ lowest_place l → fault x.number x.place ≡ first_lowest n l y
  lowest_broken e w = let p = place_of_refusal n kept_is e in sym p.2 ∙ sym (lowest-fault n l y (p.1 ∙ w))

  lowest_kept : {u : Unit {0}} → k ≡ Ok u → a ≡ lowest_place l → y ≡ first_lowest n l y
  lowest_kept e w = sym (lowest_right n l y (no_place n kept_is e ∙ w))

module _ (file : List ℕ) where
  pub too_short : length file ≤ 3 → Some 3 ≡ first_place (other_platform file)
  unfolding other_platform wrong_at
  too_short h = let z : get_or file 3 0 ≡ 0 = past_end file 3 h in rw z where
    past_end : (l : List ℕ) (i : ℕ) → length l ≤ i → get_or l i 0 ≡ 0
    past_end [] i h = refl
    past_end (x ∷ l) zero h = absurd (omega arith)
    past_end (x ∷ l) (suc i) h = past_end l i (omega arith)

  pub its_platform : get_or file 3 0 ≡ 0x77 → None ≡ first_place (other_platform file)
  unfolding other_platform wrong_at
  its_platform e = rw (eq-eqb (get_or file 3 0) 0x77 e)

  pub another_platform : (get_or file 3 0 ≡ 0x77 → ⊥) → Some 3 ≡ first_place (other_platform file)
  unfolding other_platform wrong_at
  another_platform n = rw (ne_eqb (get_or file 3 0) 0x77 n)

pub no_padding : (file : List ℕ) (g : Grid) (table : List ℕ) (used readers padding : ℕ) → padding ≡ 0 → NumbersPadded file g table used readers padding None
no_padding file g table used readers padding z h rows d e = sym (ap first_place (none-padded file (file_places file readers rows) (sym e ∙ z)))

module _ (g : Grid) (table : List ℕ) (used : ℕ) where
  pub last_47 : {a : Option ℕ} {k : Kept} → Finds g table used nextless a → k ≡ kept 47 a → From47 g table used k
  unfolding from47
  last_47 {a} {k} f e = go k e where
    go : (k : Kept) → k ≡ kept 47 a → From47 g table used k
    go (Ok u) e rows d = rule_kept 47 (nextless rows) fine e refl (f rows d)
    go (Err x) e rows d = rule_broken 47 (nextless rows) fine e refl (f rows d)

  pub broken_46 : {a : Option ℕ} {k : Kept} {x : Refusal} → Finds g table used no_page a → k ≡ kept 46 a → k ≡ Err x → From46 g table used (Err x)
  unfolding from46
  broken_46 f e q rows d = rule_broken 46 (no_page rows) (from47 rows) e q (f rows d)

  pub kept_46 : {a : Option ℕ} {k : Kept} {u : Unit {0}} → Finds g table used no_page a → k ≡ kept 46 a → k ≡ Ok u → (r : Kept) → From47 g table used r → From46 g table used r
  unfolding from46
  kept_46 f e q r h rows d = h rows d ∙ rule_kept 46 (no_page rows) (from47 rows) e q (f rows d)

module _ (file : List ℕ) (g : Grid) (table : List ℕ) (used : ℕ) where
  pub broken_45 : {a : Option ℕ} {k : Kept} {x : Refusal} → RepeatedKeys file g table used a → k ≡ kept 45 a → k ≡ Err x → From45 file g table used (Err x)
  unfolding from45
  broken_45 f e q rows d w = lowest_broken 45 (repeated file rows) (from46 rows) e q (f rows d w)

  pub kept_45 : {a : Option ℕ} {k : Kept} {u : Unit {0}} → RepeatedKeys file g table used a → k ≡ kept 45 a → k ≡ Ok u → (r : Kept) → From46 g table used r → From45 file g table used r
  unfolding from45
  kept_45 f e q r h rows d w = h rows d ∙ lowest_kept 45 (repeated file rows) (from46 rows) e q (f rows d w)

module _ (es : List EnumEntry) (file : List ℕ) (g : Grid) (table : List ℕ) (used : ℕ) where
  pub broken_44 : {a : Option ℕ} {k : Kept} {x : Refusal} → DoubledReader es file a → k ≡ kept 44 a → k ≡ Err x → From44 es file g table used (Err x)
  unfolding from44
  broken_44 f e q readers padding targets rows w = rule_broken 44 (doubled file [] targets 0) (from45 file rows) e q (f w.short w.names targets w.shared w.next w.listed)

  pub kept_44 : {a : Option ℕ} {k : Kept} {u : Unit {0}} → DoubledReader es file a → k ≡ kept 44 a → k ≡ Ok u → (r : Kept) → From45 file g table used r → From44 es file g table used r
  unfolding from44
  kept_44 f e q r h readers padding targets rows w =
      h rows w.held w.few ∙ rule_kept 44 (doubled file [] targets 0) (from45 file rows) e q (f w.short w.names targets w.shared w.next w.listed)

  module _ (readers : ℕ) where
    pub broken_43 : {a : Option ℕ} {k : Kept} {x : Refusal} → UnusedReader file g table used readers a → k ≡ kept 43 a → k ≡ Err x → From43 es file g table used readers (Err x)
    unfolding from43
    broken_43 f e q padding targets rows w =
        rule_broken 43 (unused file rows (length targets) 0) (from44 file targets rows) e q (f w.short rows w.held ∙ ap (λ (n : ℕ). first_place (unused file rows n 0)) w.count)

    pub kept_43 : {a : Option ℕ} {k : Kept} {u : Unit {0}} → UnusedReader file g table used readers a → k ≡ kept 43 a → k ≡ Ok u → (r : Kept) → From44 es file g table used r → From43 es file g table used readers r
    unfolding from43
    kept_43 f e q r h padding targets rows w =
        h readers padding targets rows w
        ∙ rule_kept 43 (unused file rows (length targets) 0) (from44 file targets rows) e q (f w.short rows w.held ∙ ap (λ (n : ℕ). first_place (unused file rows n 0)) w.count)

    module _ (padding : ℕ) where
      pub broken_42 : {a : Option ℕ} {k : Kept} {x : Refusal} → NumbersPadded file g table used readers padding a → k ≡ kept 42 a → k ≡ Err x → From42 es file g table used readers padding (Err x)
      unfolding from42
      broken_42 f e q targets rows w =
          rule_broken 42 (padded file (file_places file (length targets) rows)) (from43 file targets rows) e q (f w.short rows w.held w.pads ∙ ap (λ (n : ℕ). first_place (padded file (file_places file n rows))) w.count)

      pub kept_42 : {a : Option ℕ} {k : Kept} {u : Unit {0}} → NumbersPadded file g table used readers padding a → k ≡ kept 42 a → k ≡ Ok u
          → (r : Kept) → From43 es file g table used readers r → From42 es file g table used readers padding r
      unfolding from42
      kept_42 f e q r h targets rows w =
          h padding targets rows w
          ∙ rule_kept 42 (padded file (file_places file (length targets) rows)) (from43 file targets rows) e q (f w.short rows w.held w.pads ∙ ap (λ (n : ℕ). first_place (padded file (file_places file n rows))) w.count)

      pub broken_41 : {a : Option ℕ} {k : Kept} {x : Refusal} → a ≡ first_place (other_platform file) → k ≡ kept 41 a → k ≡ Err x → From41 es file g table used readers padding (Err x)
      unfolding fault_of
      broken_41 f e q targets rows w = rule_broken 41 (other_platform file) (from42 file targets rows) e q f

      pub kept_41 : {a : Option ℕ} {k : Kept} {u : Unit {0}} → a ≡ first_place (other_platform file) → k ≡ kept 41 a → k ≡ Ok u
          → (r : Kept) → From42 es file g table used readers padding r → From41 es file g table used readers padding r
      unfolding fault_of
      kept_41 f e q r h targets rows w = h targets rows w ∙ rule_kept 41 (other_platform file) (from42 file targets rows) e q f
