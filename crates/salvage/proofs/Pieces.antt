-- The pieces of a scan from record to record, as the code goes. Assumes nothing.
use mathlib.Core.Path.{◌≡◌, refl, sym, ap, subst, ◌∙◌}
use mathlib.Core.List.{List, [], ◌∷◌, ◌++◌}
use mathlib.Core.Logic.{inl, inr}
use Prim.Native.Nat.{ℕ, zero, suc, ◌+◌, ◌≤◌, ◌<◌}
use native.Mathlib.Omega.{arith}
use native.Mathlib.Decide.{dec_lt}
use lib.ListN.{length, drop, get_or}
use lib.Seq.{drop-cons}
use borrow.Author.Tests.{eq-eqb, ne_eqb}
use Rattle.laws.specs.Small.{differ}
use Rattle.reading.specs.Answer as answer
use Rattle.reading.specs.Answer.{Answer, read}
use Rattle.reading.specs.Reads.{Small, Spans}
use Rattle.pack_layout.specs.Pack.{Stored, Lawful, marked, record_bytes}
use Rattle.pack_reading.specs.Pack.{record_at}
use Rattle.pack_reading.specs.Laws.{record_reads}
use Rattle.std.specs.Prelude.{Ok, Err, None}
use Rattle.answers.specs.declared.Refusal.{Refusal}
use Rattle.pack_records.specs.declared.Record.{Record}
use Rattle.pack_records.specs.Records.{recorded}
use Rattle.packs.specs.Walk.{got}
use Rattle.pack_salvage.specs.Scan.{Piece, skipped, all_skipped, RecordStands, NoRecordStands, Scanned, at_end, no_more, keeps, goes_on, kept_of}
use Rattle.pack_salvage.specs.Scanning.{scan, scan-goes_on}
use Rattle.pack_salvage.specs.Stretches.{Stretch, joined, stretches, Apart}
use Rattle.salvage.specs.Salvaging.{NoLead, StandsFrom, NextRecord, Next, gap}

-- ---- Where a record stands, and where none does

-- no record starts with another byte than its mark's first
pub no_lead : (pack : List ℕ) (i : ℕ) → i < length pack → (get_or pack i 0 ≡ 0xFD → ⊥) → NoRecordStands (drop i pack)
unfolding record_bytes
no_lead pack i h other f rest w = other (ap (λ (l : List ℕ). get_or l 0 0) (sym (drop-cons pack i 0 h) ∙ w.parts))

module _ (pack : List ℕ) (at : ℕ) where
  pub refused_none : {e : Refusal} → Err e ≡ recorded marked at (record_at marked pack at) → NoRecordStands (drop at pack)
  refused_none {e} q f rest w =
      let r : record_at marked pack at ≡ read f (at + length (record_bytes marked f)) = (record_reads marked pack).complete f (record_bytes marked f) rest at (w.lawful, refl) w.parts in
      let p : Err e ≡ recorded marked at (read f (at + length (record_bytes marked f))) = rw r at q in
      differ cc

  stands_of : {f : Stored} {e : ℕ} (x : Answer Stored) → answer.Ok (Spans pack (λ f l. Lawful f × (l ≡ record_bytes marked f)) at) x → x ≡ read f e → RecordStands f (drop e pack) (drop at pack)
  stands_of {f} {e} x o q =
      let w = o.got q in
      record { lawful = w.1.0; parts = w.2 ∙ ap (λ (l : List ℕ). l ++ drop e pack) w.1.1 }

  pub found_stands : {r : Record} → Small pack → Ok r ≡ recorded marked at (record_at marked pack at) → (r.first + r.count ≤ length pack) × StandsFrom pack at (r.first + r.count)
  found_stands small q =
      let g = got marked pack at small q in
      (g.inside, record { file = g.stored; stands = stands_of (record_at marked pack at) ((record_reads marked pack).sound small at) g.is; behind = g.behind })

-- from one place to another no record starts
pub record Past (pack : List ℕ) (from to : ℕ) : Type 0 where
  pub forward : from ≤ to
  pub inside : to ≤ length pack
  pub none : (i : ℕ) → from ≤ i → i < to → NoRecordStands (drop i pack)

module _ (pack : List ℕ) where
  pub past_leads : {from to : ℕ} → NoLead pack from to → Past pack from to
  past_leads w = record { forward = w.forward; inside = w.inside; none = λ i p q. no_lead pack i (omega (arith, q, w.inside)) (w.none i p q) }

  -- past a place where a record was tried, and to the next one to try
  pub past-tried : {from at to : ℕ} → Past pack from at → NoRecordStands (drop at pack) → NoLead pack (at + 1) to → Past pack from to
  past-tried {from} {at} {to} v tried w = record { forward = omega (arith, v.forward, w.forward); inside = w.inside; none = none } where
    here : (i : ℕ) → from ≤ i → i < to → Dec (i < at) → Dec (at < i) → NoRecordStands (drop i pack)
    here i p q (yes k) m = v.none i p k
    here i p q (no k) (yes m) = (past_leads w).none i (omega arith) q
    here i p q (no k) (no m) = let e : at ≡ i = omega arith in subst (λ (n : ℕ). NoRecordStands (drop n pack)) e tried

    none : (i : ℕ) → from ≤ i → i < to → NoRecordStands (drop i pack)
    none i p q = here i p q (dec_lt i at) (dec_lt at i)

  pub next_found : {from at end : ℕ} → Past pack from at → (end ≤ length pack) × StandsFrom pack at end → NextRecord pack from at end × StandsFrom pack at end
  next_found v w = (record { forward = v.forward; onward = omega (arith, w.1.behind); inside = w.0; none = v.none; found = inr w.1 }, w.1)

  pub next_none : {from at : ℕ} → Past pack from at → length pack ≤ at → Next pack from None
  next_none {from} {at} v h =
      let e : at ≡ length pack = omega (arith, v.inside) in
      let w : Past pack from (length pack) = subst (λ (n : ℕ). Past pack from n) e v in
      record { forward = w.forward; onward = omega arith; inside = w.inside; none = w.none; found = inl (refl, refl) }

-- ---- Bytes that are skipped one after the other

pub skip-run : (k : ℕ) (run rest : List ℕ) → Small (run ++ rest) → ((i : ℕ) → i < length run → NoRecordStands (drop i (run ++ rest)))
    → scan (suc k) zero (run ++ rest) ≡ all_skipped run ++ scan (suc k) zero rest
unfolding all_skipped Small
skip-run k [] rest small none = refl
skip-run k (b ∷ run) rest small none =
    scan-goes_on k b (run ++ rest) small (none 0 (omega arith))
    ∙ ap (λ (ps : List Piece). skipped b ∷ ps) (skip-run k run rest small.1 (λ i h. none (suc i) (omega arith)))

pub run-kept : (run : List ℕ) (ps : List Piece) → kept_of (all_skipped run ++ ps) ≡ kept_of ps
unfolding all_skipped kept_of
run-kept [] ps = refl
run-kept (b ∷ run) ps = run-kept run ps

-- a byte before stretches that start later is one of its own
joined-later : (at : ℕ) (l : List Stretch) → Apart (suc (suc at)) l → joined at l ≡ (at, 1) ∷ l
unfolding joined Apart
joined-later at [] w = refl
joined-later at (s ∷ l) w = rw (ne_eqb s.0 (suc at) (λ e. absurd (omega (arith, w.0))))

joined-gap : (at n : ℕ) (l : List Stretch) → Apart (suc (suc (at + n))) l → joined at (gap (suc at) n ++ l) ≡ (at, suc n) ∷ l
unfolding joined
joined-gap at zero l w = joined-later at l (let z : suc (suc (at + 0)) ≡ suc (suc at) = omega arith in subst (λ (n : ℕ). Apart n l) z w)
joined-gap at (suc n) l w = rw (eq-eqb (suc at) (suc at) refl)

-- bytes that are skipped one after the other are one stretch, where the next one starts later
pub run-stretches : (at : ℕ) (run : List ℕ) (ps : List Piece) → Apart (suc (at + length run)) (stretches (at + length run) ps)
    → stretches at (all_skipped run ++ ps) ≡ gap at (length run) ++ stretches (at + length run) ps
unfolding all_skipped stretches
run-stretches at [] ps w = let z : at + 0 ≡ at = omega arith in rw z
run-stretches at (b ∷ run) ps w =
    let z : at + suc (length run) ≡ suc at + length run = omega arith in
    let y : suc (suc at + length run) ≡ suc (suc (at + length run)) = omega arith in
    let v : Apart (suc (suc at + length run)) (stretches (suc at + length run) ps) = rw z at w in
    ap (joined at) (run-stretches (suc at) run ps v)
    ∙ joined-gap at (length run) (stretches (suc at + length run) ps) (subst (λ (n : ℕ). Apart n (stretches (suc at + length run) ps)) y v)
    ∙ ap (λ (n : ℕ). (at, suc (length run)) ∷ stretches n ps) (sym z)

-- where nothing more is kept, all is skipped
pub only-skipped : {k : ℕ} {bs : List ℕ} {ps : List Piece} → Scanned k bs ps → kept_of ps ≡ [] → ps ≡ all_skipped bs
unfolding kept_of all_skipped
only-skipped at_end e = refl
only-skipped no_more e = refl
only-skipped (keeps w s) e = absurd (omega (arith, ap length e))
only-skipped (goes_on {b = b} none s) e = ap (λ (ps : List Piece). skipped b ∷ ps) (only-skipped s e)
