-- The records of a scan one after the other, and the stretches between them. Assumes nothing.
use mathlib.Core.Path.{◌≡◌, refl, sym, ap, subst, ◌∙◌}
use mathlib.Core.List.{List, [], ◌∷◌, ◌++◌, append-nil, append_assoc}
use Prim.Native.Nat.{ℕ, zero, suc, ◌+◌, ◌-◌, ◌≤◌, ◌<◌}
use native.Mathlib.Omega.{arith}
use lib.ListN.{length, take, drop, length-append, length-drop, take-append-drop, drop_of_length-le}
use lib.Seq.{drop-drop, length-take-le}
use Rattle.reading.specs.Reads.{Small, small-drop}
use Rattle.reading.specs.Little.{length-little}
use Rattle.layout.specs.Number.{little}
use Rattle.pack_layout.specs.Pack.{Stored, marked, record_bytes, records_bytes, pack_bytes}
use Rattle.packs.specs.Walk.{records_append}
use Rattle.pack_salvage.specs.Scan.{Piece, kept, all_skipped, NoRecordStands, kept_of}
use Rattle.pack_salvage.specs.Scanning.{scan, is_scanned, scan-none, scan-keeps, record_length}
use Rattle.pack_salvage.specs.Stretches.{Stretch, stretches, Apart, apart-later}
use Rattle.pack_salvage.proofs.Stretches.{stretches-apart}
use Rattle.pack_salvage.specs.Salvage.{pieces_of, new_pack, skipped_of}
use Rattle.salvage.specs.Salvaging.{StandsFrom, NextRecord, gap, gap_of, size_of}
use Rattle.salvage.specs.declared.Size.{Size}
use Rattle.salvage.proofs.Pieces.{skip-run, run-kept, run-stretches, only-skipped}

pub pack_length : (fs : List Stored) → length (pack_bytes marked fs) ≡ 4 + length (records_bytes marked fs)
unfolding pack_bytes
pack_length fs = length-append (little 4 (length fs)) (records_bytes marked fs) ∙ ap (λ (n : ℕ). n + length (records_bytes marked fs)) (length-little 4 (length fs))

pub one_more-length : (done : List Stored) (f : Stored) → length (records_bytes marked (done ++ f ∷ [])) ≡ length (records_bytes marked done) + length (record_bytes marked f)
unfolding records_bytes
one_more-length done f = rw (records_append marked done (f ∷ []), append-nil (record_bytes marked f)) (length-append (records_bytes marked done) (record_bytes marked f))

-- at most one stretch stands between two places
pub gap_few : (at n : ℕ) {k : ℕ} → k ≡ length (gap at n) → k ≤ 1
gap_few at zero e = omega arith
gap_few at (suc n) e = omega arith

module _ (pack : List ℕ) where
  -- what is left to scan behind i records
  abbrev pub left_at : (i at : ℕ) → List Piece
  left_at i at = scan (4096 - i) zero (drop at pack)

  -- i records are kept and some stretches skipped, and the scan goes on at a place behind a record
  pub record Reached (done : List Stored) (gaps : List Stretch) (i at : ℕ) : Type 0 where
    pub few : i ≤ 4096
    pub inside : at ≤ length pack
    pub count : length done ≡ i
    pub bounded : 4 + length (records_bytes marked done) ≤ at
    pub stretched : length gaps ≤ i
    pub files : kept_of (pieces_of pack) ≡ done ++ kept_of (left_at i at)
    pub skips : skipped_of pack ≡ gaps ++ stretches at (left_at i at)

  pub begin : 4 ≤ length pack → Reached [] [] 0 4
  unfolding records_bytes
  begin h = record { few = omega arith; inside = h; count = refl; bounded = omega arith; stretched = omega arith; files = refl; skips = refl }

  module _ (small : Small pack) {at start end : ℕ} (n : NextRecord pack at start end) where
    split : drop at pack ≡ take (start - at) (drop at pack) ++ drop start pack
    split =
        let z : at + (start - at) ≡ start = omega (arith, n.forward) in
        sym (take-append-drop (start - at) (drop at pack)) ∙ ap (λ (l : List ℕ). take (start - at) (drop at pack) ++ l) (drop-drop (start - at) at pack ∙ ap (λ (k : ℕ). drop k pack) z)

    run_length : length (take (start - at) (drop at pack)) ≡ start - at
    run_length = length-take-le (start - at) (drop at pack) (omega (arith, n.onward, n.inside, length-drop at pack))

    -- up to the next record all is skipped
    to_next : (k : ℕ) → scan (suc k) zero (drop at pack) ≡ all_skipped (take (start - at) (drop at pack)) ++ scan (suc k) zero (drop start pack)
    to_next k =
        ap (scan (suc k) zero) split
        ∙ skip-run k (take (start - at) (drop at pack)) (drop start pack) (subst Small split (small-drop at pack small))
        (λ i h. subst NoRecordStands (sym (drop-drop i at pack) ∙ ap (drop i) split) (n.none (at + i) (omega arith) (omega (arith, run_length))))

    -- a record that is kept
    module _ (s : StandsFrom pack start end) (k : ℕ) where
      keeps_next : scan (suc k) zero (drop at pack) ≡ all_skipped (take (start - at) (drop at pack)) ++ kept s.file ∷ scan k zero (drop end pack)
      keeps_next = to_next k ∙ ap (λ (ps : List Piece). all_skipped (take (start - at) (drop at pack)) ++ ps) (scan-keeps k s.file (drop end pack) (drop start pack) s.stands)

      next_kept : kept_of (scan (suc k) zero (drop at pack)) ≡ s.file ∷ kept_of (scan k zero (drop end pack))
      unfolding kept_of
      next_kept = ap kept_of keeps_next ∙ run-kept (take (start - at) (drop at pack)) (kept s.file ∷ scan k zero (drop end pack))

      past_kept : stretches start (kept s.file ∷ scan k zero (drop end pack)) ≡ stretches end (scan k zero (drop end pack))
      unfolding stretches
      past_kept = ap (λ (m : ℕ). stretches m (scan k zero (drop end pack))) (sym s.behind)

      next_stretches : stretches at (scan (suc k) zero (drop at pack)) ≡ gap_of at start ++ stretches end (scan k zero (drop end pack))
      next_stretches =
          let run = take (start - at) (drop at pack) in
          let ps = scan k zero (drop end pack) in
          let z : at + length run ≡ start = omega (arith, run_length, n.forward) in
          let later = apart-later (suc start) end (stretches end ps) (omega (arith, s.behind, record_length s.file)) (stretches-apart end ps) in
          let apart : Apart (suc (at + length run)) (stretches (at + length run) (kept s.file ∷ ps)) = rw z (subst (Apart (suc start)) (sym past_kept) later) in
          ap (stretches at) keeps_next ∙ run-stretches at run (kept s.file ∷ ps) apart ∙ rw (z, run_length) (ap (λ (l : List Stretch). gap_of at start ++ l) past_kept)

    -- no record to keep
    none_next : start ≡ length pack → (k : ℕ) → scan (suc k) zero (drop at pack) ≡ all_skipped (drop at pack)
    unfolding scan
    none_next e k =
        let run = take (start - at) (drop at pack) in
        let z : drop start pack ≡ [] = drop_of_length-le pack {i = start} (omega arith) in
        let w : drop at pack ≡ run = split ∙ ap (λ (l : List ℕ). run ++ l) z ∙ append-nil run in
        to_next k ∙ rw z (append-nil (all_skipped run)) ∙ ap all_skipped (sym w)

  module _ {done : List Stored} {gaps : List Stretch} {i at : ℕ} (r : Reached done gaps i at) where
    -- the scan goes on behind a record that is kept
    pub turn : Small pack → i < 4096 → {start end : ℕ} (n : NextRecord pack at start end) (s : StandsFrom pack start end) → Reached (done ++ s.file ∷ []) (gaps ++ gap_of at start) (i + 1) end
    turn small h {start} {end} n s =
        let z : 4096 - i ≡ suc (4096 - (i + 1)) = omega arith in
        let f = s.file in
        record {
          few = omega arith;
          inside = n.inside;
          count = length-append done (f ∷ []) ∙ ap (λ (m : ℕ). m + 1) r.count;
          bounded = omega (arith, one_more-length done f, r.bounded, s.behind, n.forward);
          stretched = omega (arith, length-append gaps (gap_of at start), gap_few at (start - at) refl, r.stretched);
          files = r.files ∙ ap (λ (l : List Stored). done ++ l) (rw z (next_kept small n s (4096 - (i + 1)))) ∙ sym (append_assoc done (f ∷ []) (kept_of (left_at (i + 1) end)));
          skips = r.skips ∙ ap (λ (l : List Stretch). gaps ++ l) (rw z (next_stretches small n s (4096 - (i + 1)))) ∙ sym (append_assoc gaps (gap_of at start) (stretches end (left_at (i + 1) end)));
        }

    -- nothing more is kept, and what is left is one stretch
    pub record Ended : Type 0 where
      pub all_files : kept_of (pieces_of pack) ≡ done
      pub all_skips : skipped_of pack ≡ gaps ++ gap_of at (length pack)

    skipped_ends : left_at i at ≡ all_skipped (drop at pack) → Ended
    unfolding kept_of stretches Apart
    skipped_ends e =
        let l : all_skipped (drop at pack) ≡ all_skipped (drop at pack) ++ [] = sym (append-nil (all_skipped (drop at pack))) in
        let k : kept_of (left_at i at) ≡ [] = ap kept_of (e ∙ l) ∙ run-kept (drop at pack) [] in
        let g : stretches at (left_at i at) ≡ gap_of at (length pack) = ap (stretches at) (e ∙ l) ∙ run-stretches at (drop at pack) [] tt ∙ append-nil (gap at (length (drop at pack))) ∙ ap (gap at) (length-drop at pack) in
        record { all_files = r.files ∙ ap (λ (m : List Stored). done ++ m) k ∙ append-nil done; all_skips = r.skips ∙ ap (λ (m : List Stretch). gaps ++ m) g }

    -- "Stop at the end"
    pub ends_here : Small pack → i < 4096 → {start end : ℕ} → NextRecord pack at start end → start ≡ length pack → Ended
    ends_here small h n e =
        let z : 4096 - i ≡ suc (4096 - (i + 1)) = omega arith in
        skipped_ends (rw z (none_next small n e (4096 - (i + 1))))

    -- "or after 4,096 records"
    pub ends-full : 4096 ≤ i → Ended
    ends-full h = let z : 4096 - i ≡ 0 = omega arith in skipped_ends (rw z (scan-none (drop at pack)))

    -- as many are kept as the whole scan keeps
    pub ends-counted : Small pack → length (kept_of (pieces_of pack)) ≤ i → Ended
    ends-counted small h = skipped_ends (only-skipped (is_scanned (4096 - i) (drop at pack) (small-drop at pack small)) (empty (kept_of (left_at i at)) (omega (arith, ap length r.files, length-append done (kept_of (left_at i at)), r.count)))) where
      empty : (fs : List Stored) → length fs ≡ 0 → fs ≡ []
      empty [] e = refl
      empty (f ∷ fs) e = absurd (omega arith)

-- ---- Measuring

module _ (pack : List ℕ) where
  -- so many records are kept, with so many bytes behind the file count, and so many stretches skipped
  pub record Measuring (records bytes skips at : ℕ) : Type 0 where
    pub done : List Stored
    pub gaps : List Stretch
    pub reached : Reached pack done gaps records at
    pub sized : bytes ≡ 4 + length (records_bytes marked done)
    pub numbered : skips ≡ length gaps

  pub measure_start : 4 ≤ length pack → Measuring 0 4 0 4
  unfolding records_bytes
  measure_start h = record { done = []; gaps = []; reached = begin pack h; sized = refl; numbered = refl }

  module _ {records bytes skips at : ℕ} (m : Measuring records bytes skips at) where
    pub measure_turn : Small pack → records < 4096 → {start end : ℕ} → NextRecord pack at start end → StandsFrom pack start end → {more : ℕ} → more ≡ length (gap_of at start)
        → Measuring (records + 1) (bytes + (end - start)) (skips + more) end
    measure_turn small h {start} {end} n s e =
        record {
          done = m.done ++ s.file ∷ [];
          gaps = m.gaps ++ gap_of at start;
          reached = turn pack m.reached small h n s;
          sized = omega (arith, one_more-length m.done s.file, s.behind, m.sized);
          numbered = rw (m.numbered, e) (sym (length-append m.gaps (gap_of at start)));
        }

    pub measured : Ended pack m.reached → {more : ℕ} → more ≡ length (gap_of at (length pack))
        → ◌≡◌ {A = Size} (record { records = records; bytes = bytes; stretches = skips + more }) (size_of pack)
    measured e {more} g =
        let a : length (kept_of (pieces_of pack)) ≡ records = ap length e.all_files ∙ m.reached.count in
        let b : length (new_pack pack) ≡ bytes = pack_length (kept_of (pieces_of pack)) ∙ ap (λ (fs : List Stored). 4 + length (records_bytes marked fs)) e.all_files ∙ sym m.sized in
        let c : length (skipped_of pack) ≡ skips + more = rw (m.numbered, g) (ap length e.all_skips ∙ length-append m.gaps (gap_of at (length pack))) in
        rw (a, b, c)
