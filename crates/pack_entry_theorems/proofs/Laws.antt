-- From the equations of the entries over packs to what is demanded of their numbers. Assumes nothing.
use mathlib.Core.Path.{◌≡◌, refl, sym, ap, ◌∙◌}
use mathlib.Core.Bool.{Bool, not}
use mathlib.Core.List.{List}
use mathlib.Core.Logic.{◌⊎◌, inl, inr, ◌↔◌}
use Prim.Native.Nat.{ℕ, ◌*◌, ◌/◌, ◌<◌, ◌≤◌}
use native.Mathlib.Omega.{arith}
use native.Mathlib.Decide.{dec_lt}
use lib.ListN.{length}
use Rattle.laws.specs.Small.{differ}
use Rattle.reading.specs.Reads.{Small}
use Rattle.reading.specs.Output.{Rewritten, output_of}
use Rattle.reading.specs.Output as output
use Rattle.pack_layout.specs.Pack.{Stored, PackLays, mark_of}
use Rattle.pack_layout.specs.Numbers.{PackNumber}
use Rattle.pack_layout.specs.Table.{wholes, files_room, Fitting}
use Rattle.pack_layout.specs.Lookup.{NoMatch}
use Rattle.pack_reading.specs.Pack.{Pack, pack_of, table_for}
use Rattle.pack_reading.specs.Pack as pack
use Rattle.pack_reading.specs.Lookup.{find_of}
use Rattle.pack_reading.specs.Lookup as lookup
use Rattle.pack_salvage.specs.Scan.{Piece}
use Rattle.pack_salvage.specs.Salvage.{salvage_for, output_for, list_for}
use Rattle.pack_salvage.specs.Salvage as salvage
use Rattle.std.specs.Prelude.{Result, Ok, Err, Option, Some, None}
use Rattle.answers.specs.declared.Refusal.{Refusal}
use Rattle.packs.specs.Files as packs
use Rattle.marks.specs.Converting.{converted}
use Rattle.marks.specs.Converting as marks
use Rattle.salvage.specs.declared.Salvaged.{Salvaged}
use Rattle.salvage.specs.Salvaging as salvages
use Rattle.pack_lookup.specs.declared.Part.{Part}
use Rattle.pack_lookup.specs.Lookup.{found_as}
use Rattle.pack_told.specs.Told.{pack_told, written_told, salvage_told, found_told}
use Rattle.theorems.specs.Packs.{Reads, Finds}
use Rattle.theorems.specs.Marks.{in_form, Converts}
use Rattle.theorems.specs.Salvage.{Scan, new_of, skips_of, Room, Salvages}
use Rattle.theorems.specs.PackLaws.{read-exact, find_exact}
use Rattle.theorems.specs.MarkLaws.{convert-exact}
use Rattle.theorems.specs.SalvageLaws.{salvage_exact}
use Rattle.pack_entry_theorems.specs.Numbers.{of_reading, of_converting, of_salvaging, of_found, ReadNumbers, ConvertNumbers, SalvageNumbers, FindNumbers}

-- ---- No refusal has the number 0

not_zero : (marked : Bool) (number : ℕ) → PackNumber marked number → number ≡ 0 → ⊥
not_zero marked number (inl e) z = absurd (omega arith)
not_zero marked number (inr (inl e)) z = absurd (omega arith)
not_zero marked number (inr (inr (inl e))) z = absurd (omega arith)
not_zero marked number (inr (inr (inr (inl e)))) z = absurd (omega arith)
not_zero marked number (inr (inr (inr (inr (inl e))))) z = absurd (omega arith)
not_zero marked number (inr (inr (inr (inr (inr (inl e)))))) z = absurd (omega arith)
not_zero marked number (inr (inr (inr (inr (inr (inr e)))))) z = absurd (omega (arith, e.0))

-- ---- Reading

read_zero : {marked : Bool} {file : List ℕ} {words : ℕ} {left : List ℕ} {number : ℕ} (r : Result ℕ Refusal) → number ≡ (of_reading r).0 → Reads marked file words left r
    → (number ≡ 0) ↔ Fitting (mark_of marked) file words
read_zero {marked} (Err r) e w =
    (λ z. absurd (not_zero marked r.number (w.inside r.number r.place refl).0 (sym e ∙ z)), λ f. let q = (w.files f).0 in differ cc)
read_zero (Ok k) e w = (λ z. w.accepts.0 tt, λ f. e)

read-numbers : (x : Pack) → pack_told x ≡ of_reading (packs.answer_of x)
unfolding pack_told
read-numbers (pack.refusal number place) = refl
read-numbers (pack.accepted fs) = refl

pub reads_told : (marked : Bool) (file : List ℕ) (words : ℕ) {left : List ℕ} {number at : ℕ} → Small file
    → ◌≡◌ {A = ℕ × ℕ} (number, at) (pack_told (pack_of (mark_of marked) file words)) → left ≡ table_for (mark_of marked) file words → ReadNumbers marked file words left number at
reads_told marked file words small told leaves =
    let x = pack_of (mark_of marked) file words in
    let r = packs.answer_of x in
    let e = told ∙ read-numbers x in
    let w = read-exact marked file words small refl leaves in
    record { answer = r; numbers = e; reads = w; accepts = read_zero r (ap (λ (n : ℕ × ℕ). n.0) e) w }

-- ---- Converting

-- a pack of either form has room in a table of its own
roomy : (mark file : List ℕ) (fs : List Stored) → PackLays mark fs file → Fitting mark file (4 * 4096)
unfolding files_room
roomy mark file fs w = record { files = fs; lays = w; room = omega (arith, w.not_many) }

refusal_not_zero : (other : Bool) (size n p : ℕ) → (n ≡ 21) ⊎ (PackNumber other n × (p ≤ size)) → n ≡ 0 → ⊥
refusal_not_zero other size n p (inl a) z = absurd (omega arith)
refusal_not_zero other size n p (inr a) z = not_zero other n a.0 z

module _ {marked : Bool} {file out end : List ℕ} where
  has_room : (k : ℕ) → Converts marked file out end (Ok k) → (fs : List Stored) → PackLays (mark_of (not marked)) fs file → Dec (length out < length (in_form marked fs))
      → length (in_form marked fs) ≤ length out
  unfolding roomy
  has_room k w fs l (yes h) = let q = w.too_small (roomy (mark_of (not marked)) file fs l) h in differ cc
  has_room k w fs l (no h) = omega arith

  convert_zero : {number : ℕ} (r : Result ℕ Refusal) → number ≡ (of_converting r).0 → Converts marked file out end r
      → (number ≡ 0) ↔ ((fs : List Stored) × PackLays (mark_of (not marked)) fs file × (length (in_form marked fs) ≤ length out))
  unfolding roomy
  convert_zero (Err r) e w = (
    λ z. absurd (refusal_not_zero (not marked) (length file) r.number r.place (w.inside r.number r.place refl) (sym e ∙ z)),
    λ f. let q = (w.converts (roomy (mark_of (not marked)) file f.0 f.1) f.2).0 in differ cc,
  )
  convert_zero (Ok k) e w =
      (λ z. let v = w.written k refl in (v.0, v.1, has_room k w v.0 v.1 (dec_lt (length out) (length (in_form marked v.0)))), λ f. e)

convert-numbers : (x : Rewritten) → written_told x ≡ of_converting (marks.answer_of x)
unfolding written_told
convert-numbers (output.refusal number place) = refl
convert-numbers (output.written bytes) = refl

pub converts-told : (marked : Bool) (file out : List ℕ) {end : List ℕ} {number at : ℕ} → Small file → ◌≡◌ {A = ℕ × ℕ} (number, at) (written_told (converted marked file (length out)))
    → end ≡ output_of (converted marked file (length out)) out → ConvertNumbers marked file out end number at
converts-told marked file out small told leaves =
    let x = converted marked file (length out) in
    let r = marks.answer_of x in
    let e = told ∙ convert-numbers x in
    let w = convert-exact marked file out refl leaves small in
    record { answer = r; numbers = e; converts = w; accepts = convert_zero r (ap (λ (n : ℕ × ℕ). n.0) e) w }

-- ---- Salvaging

module _ {file out list end left : List ℕ} {number : ℕ} (r : Result Salvaged Refusal) (e : number ≡ (of_salvaging r).0) (w : Salvages file out list end left r) where
  by_answer : {x : Result Salvaged Refusal} → r ≡ x → number ≡ (of_salvaging x).0
  by_answer q = e ∙ ap (λ (x : Result Salvaged Refusal). (of_salvaging x).0) q

  scanned : number ≡ 0 → Dec (length file < 4) → (ps : List Piece) × Scan file ps × Room ps (length out) (length list)
  scanned z (yes h) = absurd (omega (arith, by_answer (w.short h)))
  scanned z (no h) = wide (dec_lt (length out) (length (new_of ps))) where
    s : (ps : List Piece) × Scan file ps × ((qs : List Piece) → Scan file qs → qs ≡ ps)
    s = w.scans (omega arith)

    ps : List Piece
    ps = s.0

    long : length (new_of ps) ≤ length out → Dec (length list / 2 < length (skips_of ps)) → (ps : List Piece) × Scan file ps × Room ps (length out) (length list)
    long k (yes l) = absurd (omega (arith, by_answer (w.list_short ps s.1 k l)))
    long k (no l) = (ps, s.1, (k, omega arith))

    wide : Dec (length out < length (new_of ps)) → (ps : List Piece) × Scan file ps × Room ps (length out) (length list)
    wide (yes k) = absurd (omega (arith, by_answer (w.too_small ps s.1 k)))
    wide (no k) = long (omega arith) (dec_lt (length list / 2) (length (skips_of ps)))

  salvage_zero : (number ≡ 0) ↔ ((ps : List Piece) × Scan file ps × Room ps (length out) (length list))
  salvage_zero = (λ z. scanned z (dec_lt (length file) 4), λ f. by_answer (w.salvages f.0 f.1 f.2).0)

salvage_numbers : (x : salvage.Salvaged) → salvage_told x ≡ of_salvaging (salvages.answer_of x)
unfolding salvage_told
salvage_numbers (salvage.refusal number place) = refl
salvage_numbers (salvage.salvaged bytes l) = refl

pub salvages_told : (file out list : List ℕ) {end left : List ℕ} {number at stretches : ℕ} → Small file → ◌≡◌ {A = ℕ × ℕ × ℕ} (number, at, stretches) (salvage_told (salvage_for file out list))
    → end ≡ output_for file out list → left ≡ list_for file out list → SalvageNumbers file out list end left number at stretches
salvages_told file out list small told leaves lists =
    let x = salvage_for file out list in
    let r = salvages.answer_of x in
    let e = told ∙ salvage_numbers x in
    let w = salvage_exact file out list small refl leaves lists in
    record { answer = r; numbers = e; salvages = w; accepts = salvage_zero r (ap (λ (n : ℕ × ℕ × ℕ). n.0) e) w }

-- ---- Finding

find_zero : {file table path : List ℕ} {number : ℕ} (r : Option Part) → number ≡ (of_found r).0 → Finds file table path r → (number ≡ 0) ↔ NoMatch file path (wholes table)
find_zero None e w = (λ z. w.absent.0 refl, λ n. e)
find_zero (Some p) e w = (λ z. absurd (omega arith), λ m. let q = w.absent.1 m in differ cc)

find_numbers : (x : lookup.Found) → found_told x ≡ of_found (found_as x)
unfolding found_told
find_numbers lookup.absent = refl
find_numbers (lookup.found first count) = refl

pub finds_told : (file table path : List ℕ) {number first count : ℕ} → ◌≡◌ {A = ℕ × ℕ × ℕ} (number, first, count) (found_told (find_of file table path)) → FindNumbers file table path number first count
finds_told file table path told =
    let x = find_of file table path in
    let r = found_as x in
    let e = told ∙ find_numbers x in
    let w = find_exact file table path refl in
    record { answer = r; numbers = e; finds = w; absent = find_zero r (ap (λ (n : ℕ × ℕ × ℕ). n.0) e) w }
