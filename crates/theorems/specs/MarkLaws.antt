-- From the contract of converting to what is demanded of it. Assumes nothing.
use Rattle.std.specs.Prelude.{◌≡◌, refl, Bool, true, false, not, cond, List, ◌++◌, ◌⊎◌, ℕ, ◌≤◌, leb, length, take, drop, Err, Ok, Result}
use Rattle.std.proofs.Common.{sym, ◌∙◌, inl, inr, arith, length-append, leb-true, le-leb}
use Rattle.std.proofs.Math.Path.{ap}
use Rattle.std.proofs.Math.Seq.{take-append_seam}
use Rattle.std.proofs.lemmas.Bool.{lt-leb}
use Rattle.laws.specs.Small.{differ}
use Rattle.reading.specs.Answer as answer
use Rattle.reading.specs.Answer.{Answer, refused, read}
use Rattle.reading.specs.Reads.{Small}
use Rattle.reading.specs.Output.{Rewritten, refusal, written, fitted, output_of}
use Rattle.pack_layout.specs.Pack.{Stored, pack_bytes, PackLays, mark_of}
use Rattle.pack_layout.specs.Numbers.{PackNumber}
use Rattle.pack_reading.specs.Pack.{pack_at}
use Rattle.pack_reading.proofs.Theorems.{pack_sound}
use Rattle.pack_reading.specs.Faults.{Keeps}
use Rattle.pack_reading.proofs.Faults.{no_31}
use Rattle.pack_writing.specs.Convert.{by_pack, convert_of, other_form}
use Rattle.pack_writing.specs.Convert as C
use Rattle.marks.specs.Converting.{converted, answer_of}
use Rattle.theorems.specs.PackLaws.{pack_refusals}
use Rattle.theorems.specs.Marks.{Given, in_form, Converts}
use Rattle.answers.specs.Refusals.{refusal as refusal_at}
use Rattle.answers.specs.declared.Refusal.{Refusal}

-- a refusal leaves the output
left_alone : (x : Rewritten) (out : List ℕ) {number place : ℕ} → answer_of x ≡ Err (refusal_at number place) → output_of x out ≡ out
unfolding output_of
left_alone (refusal n p) out q = refl
left_alone (written bytes) out q = differ cc

no_room_31 : (t : Bool) (bytes : List ℕ) (m : ℕ) {number place : ℕ} → answer_of (cond t (written bytes) (refusal 21 m)) ≡ Err (refusal_at number place) → number ≡ 31 → ⊥
no_room_31 true bytes m q e = differ cc
no_room_31 false bytes m {number} {place} q e = let z : refusal_at 21 m ≡ refusal_at number place = cc in let a : 21 ≡ number = ap (λ (r : Refusal). r.number) z in absurd (omega arith)

never_31 : (to : List ℕ) (x : Answer (List Stored)) (size out : ℕ) → Keeps (λ n. n ≡ 31 → ⊥) size x → {number place : ℕ} → answer_of (by_pack to x out) ≡ Err (refusal_at number place) → number ≡ 31 → ⊥
unfolding Keeps by_pack fitted
never_31 to (refused n p) size out k {number} {place} q e = let z : refusal_at n p ≡ refusal_at number place = cc in let a : n ≡ number = ap (λ (r : Refusal). r.number) z in k.0 (a ∙ e)
never_31 to (read fs end) size out k q e = no_room_31 (leb (length (pack_bytes to fs)) out) (pack_bytes to fs) (length (pack_bytes to fs)) q e

-- the number and the place of a refusal
abbrev Within : (other : Bool) (size number place : ℕ) → Type 0
Within other size number place = (number ≡ 21) ⊎ (PackNumber other number × (place ≤ size))

no_room_is : (other : Bool) (size : ℕ) (t : Bool) (bytes : List ℕ) (m : ℕ) {number place : ℕ} → answer_of (cond t (written bytes) (refusal 21 m)) ≡ Err (refusal_at number place) → Within other size number place
no_room_is other size true bytes m q = differ cc
no_room_is other size false bytes m {number} {place} q = let z : refusal_at number place ≡ refusal_at 21 m = cc in inl (ap (λ (r : Refusal). r.number) z)

refused-within : (other : Bool) (to : List ℕ) (x : Answer (List Stored)) (size out : ℕ) → Keeps (PackNumber other) size x → {number place : ℕ} → answer_of (by_pack to x out) ≡ Err (refusal_at number place)
    → Within other size number place
unfolding Keeps by_pack fitted
refused-within other to (refused n p) size out k {number} {place} q =
    let z : refusal_at n p ≡ refusal_at number place = cc in
    let a : n ≡ number = ap (λ (r : Refusal). r.number) z in
    let b : p ≡ place = ap (λ (r : Refusal). r.place) z in
    inr (rw (← a, ← b) k)
refused-within other to (read fs end) size out k q = no_room_is other size (leb (length (pack_bytes to fs)) out) (pack_bytes to fs) (length (pack_bytes to fs)) q

none-fits : (from to pack : List ℕ) (x : Answer (List Stored)) (out : ℕ) → answer.Ok (λ fs e. PackLays from fs pack × (length fs ≤ 4096)) x → ((fs : List Stored) → PackLays from fs pack → ⊥)
    → (number : ℕ) × (place : ℕ) × (answer_of (by_pack to x out) ≡ Err (refusal_at number place))
unfolding by_pack
none-fits from to pack (refused n p) out k none = (n, p, refl)
none-fits from to pack (read fs e) out k none = absurd (none fs (k.got refl).0)

-- the new pack at the output's start
pub at_start : (new out : List ℕ) → length new ≤ length out → (length new ≤ length (new ++ drop (length new) out)) × (take (length new) (new ++ drop (length new) out) ≡ new)
at_start new out h = (omega (arith, length-append new (drop (length new) out)), take-append_seam new (drop (length new) out))

fit_written : (new : List ℕ) (out : List ℕ) (t : Bool) → leb (length new) (length out) ≡ t → {n : ℕ} → answer_of (cond t (written new) (refusal 21 (length new))) ≡ Ok n
    → (n ≤ length (output_of (cond t (written new) (refusal 21 (length new))) out)) × (take n (output_of (cond t (written new) (refusal 21 (length new))) out) ≡ new)
unfolding output_of
fit_written new out true e {n} q = let a : n ≡ length new = cc in rw a (at_start new out (leb-true (length new) (length out) e))
fit_written new out false e q = differ cc

was_written : (from to pack : List ℕ) (x : Answer (List Stored)) (out : List ℕ) → answer.Ok (λ fs e. PackLays from fs pack × (length fs ≤ 4096)) x → {n : ℕ}
    → answer_of (by_pack to x (length out)) ≡ Ok n
    → (fs : List Stored) × PackLays from fs pack × (n ≤ length (output_of (by_pack to x (length out)) out)) × PackLays to fs (take n (output_of (by_pack to x (length out)) out))
unfolding by_pack fitted
was_written from to pack (refused n p) out k q = differ cc
was_written from to pack (read fs e) out k q =
    let v = k.got refl in
    let w = fit_written (pack_bytes to fs) out (leb (length (pack_bytes to fs)) (length out)) refl q in
    (fs, v.0, w.0, rw w.1 (other_form from to fs v.0))

module _ (marked : Bool) (pack out : List ℕ) {end : List ℕ} {r : Result ℕ Refusal} (answers : r ≡ answer_of (converted marked pack (length out))) (leaves : end ≡ output_of (converted marked pack (length out)) out) where
  by_files : {words : ℕ} (f : Given marked pack words) → converted marked pack (length out) ≡ fitted (in_form marked f.files) (length out)
  by_files f = C.converts (mark_of (not marked)) (mark_of marked) f.files pack (length out) f.lays

  pub convert-exact : Small pack → Converts marked pack out end r
  unfolding fitted output_of convert_of
  convert-exact small =
      let from = mark_of (not marked) in
      let to = mark_of marked in
      let x = pack_at from pack 4096 in
      let sound = pack_sound from pack 4096 small in
      record {
        converts = λ f h.
            let new = in_form marked f.files in
            let e : converted marked pack (length out) ≡ written new = by_files f ∙ rw (le-leb (length new) (length out) h) in
            (answers ∙ ap answer_of e, leaves ∙ ap (λ (y : Rewritten). output_of y out) e);
        too_small = λ f h.
            let new = in_form marked f.files in
            let e : converted marked pack (length out) ≡ refusal 21 (length new) = by_files f ∙ rw (lt-leb (length new) (length out) h) in
            answers ∙ ap answer_of e;
        refuses = λ none. let w = none-fits from to pack x (length out) sound none in (w.0, w.1, answers ∙ w.2);
        unchanged = λ number place q. (leaves ∙ left_alone (converted marked pack (length out)) out (sym answers ∙ q), never_31 to x (length pack) (length out) (no_31 from pack) (sym answers ∙ q));
        inside = λ number place q. refused-within (not marked) to x (length pack) (length out) (pack_refusals (not marked) pack 4096) (sym answers ∙ q);
        written = λ n q. let w = was_written from to pack x out sound (sym answers ∙ q) in (w.0, w.1, rw leaves w.2, rw leaves w.3);
      }
