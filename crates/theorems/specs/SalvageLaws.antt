-- From the contract of salvaging to what is demanded of it. Assumes nothing.
use Rattle.std.specs.Prelude.{◌≡◌, refl, Bool, true, false, ℕ, ◌/◌, ◌≤◌, leb, Err, Ok, Result}
use Rattle.std.proofs.Math.Path.{sym, ap, subst}
use Rattle.std.proofs.Common.{◌∙◌}
use mathlib.Core.List.{List, ◌++◌}
use Rattle.std.proofs.Math.ListN.{length, take, drop, take-append-drop}
use borrow.Author.Tests.{leb-true, le-leb, lt-leb}
use Rattle.laws.specs.Small.{differ}
use Rattle.reading.specs.Reads.{Small, small-drop}
use Rattle.pack_layout.specs.Pack.{marked, PackLays}
use Rattle.pack_salvage.specs.Scan.{Piece, makes_up, kept_of}
use Rattle.pack_salvage.specs.Scanning.{scan_is}
use Rattle.pack_salvage.specs.Stretches.{words}
use Rattle.pack_salvage.proofs.Stretches.{stretches-apart, covers}
use Rattle.pack_salvage.specs.Salvage as S
use Rattle.pack_salvage.specs.Salvage.{pieces_of, salvaged, refusal, unless, salvage_of, output_of, list_of, salvage_for, output_for, list_for, pieces_scanned, no_longer, accepted-stays}
use Rattle.pack_salvage.proofs.Salvage.{pack_written, few_stretches}
use Rattle.salvage.specs.Salvaging.{answer_of}
use Rattle.theorems.specs.Salvage.{Scan, new_of, skips_of, Room, Salvages}
use Rattle.theorems.specs.MarkLaws.{at_start}
use Rattle.answers.specs.Refusals.{refusal as refusal_at}
use Rattle.answers.specs.declared.Refusal.{Refusal}
use Rattle.salvage.specs.declared.Salvaged.{Salvaged}
use Rattle.salvage.specs.Salvaging.{salvaged_so}

-- a refusal leaves the output and the list
left_alone : (x : S.Salvaged) (out list : List ℕ) {number place : ℕ} → answer_of x ≡ Err (refusal_at number place) → (output_of x out ≡ out) × (list_of x list ≡ list)
unfolding output_of list_of
left_alone (refusal n p) out list q = (refl, refl)
left_alone (salvaged bytes l) out list q = differ cc

-- an answer that is no refusal passed every test
passed : (b : Bool) (number place : ℕ) (x : S.Salvaged) {n m : ℕ} → answer_of (unless b number place x) ≡ Ok (salvaged_so n m) → (b ≡ true) × (answer_of x ≡ Ok (salvaged_so n m))
unfolding unless
passed true number place x q = (refl, q)
passed false number place x q = differ cc

module _ (pack out list : List ℕ) (small : Small pack) {end left : List ℕ} {r : Result Salvaged Refusal} (answers : r ≡ answer_of (salvage_for pack out list)) (leaves : end ≡ output_for pack out list) (lists : left ≡ list_for pack out list) where
  -- the pieces of any scan are those of the definition
  pieces : (ps : List Piece) → Scan pack ps → pieces_of pack ≡ ps
  pieces ps s = scan_is (small-drop 4 pack small) s.scanned

  own : 4 ≤ length pack → Scan pack (pieces_of pack)
  own h = record { long = h; scanned = pieces_scanned pack small }

  by : {x : S.Salvaged} → salvage_for pack out list ≡ x → (r ≡ answer_of x) × (end ≡ output_of x out) × (left ≡ list_of x list)
  by e = (answers ∙ ap answer_of e, leaves ∙ ap (λ (y : S.Salvaged). output_of y out) e, lists ∙ ap (λ (y : S.Salvaged). list_of y list) e)

  given : (ps : List Piece) → Scan pack ps
      → salvage_for pack out list
      ≡ unless (leb (length (new_of ps)) (length out)) 21 (length (new_of ps))
      (unless (leb (length (skips_of ps)) (length list / 2)) 52 (length (skips_of ps)) (salvaged (new_of ps) (skips_of ps)))
  unfolding salvage_of unless
  given ps s = rw (pieces ps s, le-leb 4 (length pack) s.long)

  with_room : (ps : List Piece) → Scan pack ps → Room ps (length out) (length list) → salvage_for pack out list ≡ salvaged (new_of ps) (skips_of ps)
  unfolding unless
  with_room ps s h = given ps s ∙ rw (le-leb (length (new_of ps)) (length out) h.0, le-leb (length (skips_of ps)) (length list / 2) h.1)

  was_written : (n m : ℕ) → r ≡ Ok (salvaged_so n m)
      → (ps : List Piece) × Scan pack ps × Room ps (length out) (length list) × (n ≤ length end) × PackLays marked (kept_of ps) (take n end)
  unfolding salvage_of output_of
  was_written n m q =
      let ps = pieces_of pack in
      let p₁ = passed (leb 4 (length pack)) 1 0 _ (sym answers ∙ q) in
      let p₂ = passed (leb (length (new_of ps)) (length out)) 21 (length (new_of ps)) _ p₁.1 in
      let p₃ = passed (leb (length (skips_of ps)) (length list / 2)) 52 (length (skips_of ps)) _ p₂.1 in
      let s = own (leb-true 4 (length pack) p₁.0) in
      let h : Room ps (length out) (length list)
      = (leb-true (length (new_of ps)) (length out) p₂.0, leb-true (length (skips_of ps)) (length list / 2) p₃.0) in
      let e : end ≡ new_of ps ++ drop (length (new_of ps)) out = (by (with_room ps s h)).1 in
      let z : salvaged_so (length (new_of ps)) (length (skips_of ps)) ≡ salvaged_so n m = cc p₃.1 in
      let a : n ≡ length (new_of ps) = sym (ap (λ (s : Salvaged). s.length) z) in
      let w = at_start (new_of ps) out h.0 in
      (ps, s, h, rw (a, e) w.0, subst (PackLays marked (kept_of ps)) (sym (rw (a, e) w.1)) (pack_written pack small))

  pub salvage_exact : Salvages pack out list end left r
  unfolding salvage_of unless output_of list_of words
  salvage_exact = record {
    short = λ h. let e : salvage_for pack out list ≡ refusal 1 0 = rw (lt-leb 4 (length pack) h) in (by e).0;
    scans = λ h. (pieces_of pack, own h, λ qs s. sym (pieces qs s));
    makes_up = λ ps s. ap (λ (l : List ℕ). take 4 pack ++ l) (makes_up s.scanned) ∙ take-append-drop 4 pack;
    stretched = λ ps s. (stretches-apart 4 ps, λ place. covers place 4 ps);
    bounded = λ ps s. (no_longer pack ps s.long s.scanned, few_stretches ps s.scanned);
    too_small = λ ps s h.
        let e : salvage_for pack out list ≡ refusal 21 (length (new_of ps)) = given ps s ∙ rw (lt-leb (length (new_of ps)) (length out) h) in
        (by e).0;
    list_short = λ ps s h k.
        let e : salvage_for pack out list ≡ refusal 52 (length (skips_of ps))
        = given ps s ∙ rw (le-leb (length (new_of ps)) (length out) h, lt-leb (length (skips_of ps)) (length list / 2) k) in
        (by e).0;
    salvages = λ ps s h. by (with_room ps s h);
    unchanged = λ number place q.
        let w = left_alone (salvage_for pack out list) out list (sym answers ∙ q) in
        (leaves ∙ w.0, lists ∙ w.1);
    written = was_written;
    stays = λ f h. by (accepted-stays f.files pack (length out) (length list) small f.lays h);
  }
