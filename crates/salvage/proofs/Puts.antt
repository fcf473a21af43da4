-- The records and the stretches put one after the other into the output and the list. Assumes nothing.
use mathlib.Core.Path.{◌≡◌, refl, sym, ap, subst, ◌∙◌}
use mathlib.Core.List.{List, [], ◌∷◌, ◌++◌, append-nil, append_assoc}
use Prim.Native.Nat.{ℕ, ◌+◌, ◌*◌, ◌-◌, ◌/◌, ◌≤◌, ◌<◌}
use native.Mathlib.Omega.{arith}
use borrow.Author.Rules.{rules}
use lib.ListN.{length, take, drop, length-append, length-drop}
use lib.Seq.{drop-drop, take-append_seam, drop-append-add}
use borrow.Author.Tests.{le-leb, lt-leb}
use Rattle.fill.specs.Fill.{inside, pasted, copied}
use Rattle.layout.specs.Number.{little}
use Rattle.reading.specs.Reads.{Small}
use Rattle.reading.specs.Little.{length-little}
use Rattle.pack_layout.specs.Pack.{Stored, marked, record_bytes, records_bytes, pack_bytes}
use Rattle.packs.specs.Walk.{records_append}
use Rattle.pack_salvage.specs.Scan.{kept_of, kept-lawful}
use Rattle.pack_salvage.specs.Stretches.{Stretch, stretches, words}
use Rattle.pack_salvage.specs.Salvage.{pieces_of, new_pack, skipped_of, Salvaged, refusal, salvaged, unless, salvage_of, output_of, list_of, salvage_for, output_for, list_for, pieces_scanned}
use Rattle.salvage.specs.Salvaging.{StandsFrom, NextRecord, Next, gap_of, GapFits, gap_put, count_put, Fits, answer_of}
use Rattle.std.specs.Prelude.{Ok, Err, Option, Some, None, IsSome}
use Rattle.answers.specs.Refusals as code
use Rattle.salvage.specs.declared.Span.{Span}
use Rattle.salvage.proofs.Gaps.{one_gap}
use Rattle.salvage.proofs.Turns.{pack_length, one_more-length, Reached, begin, left_at, turn, Ended, ends_here, ends-counted}

-- ---- What is put at the start of lent words

-- the words begin with these, and behind them stands what stood there before
pub record Begins (base front now : List ℕ) : Type 0 where
  pub fits : length front ≤ length base
  pub is : now ≡ front ++ drop (length front) base

module _ {base front now : List ℕ} (b : Begins base front now) where
  pub same_long : length now ≡ length base
  same_long = omega (arith, ap length b.is, length-append front (drop (length front) base), length-drop (length front) base, b.fits)

  -- more is put behind them
  pub put-more : (more : List ℕ) {next : List ℕ} → length (front ++ more) ≤ length base
      → next ≡ take (length front) now ++ more ++ drop (length front + length more) now → Begins base (front ++ more) next
  put-more more {next} h e =
      let a : take (length front) now ≡ front = rw b.is (take-append_seam front (drop (length front) base)) in
      let d : drop (length front + length more) now ≡ drop (length front + length more) base
      = rw b.is (drop-append-add front (drop (length front) base) (length more) ∙ drop-drop (length more) (length front) base) in
      record { fits = h; is = e ∙ rw (a, d, length-append front more) }

words_append : (l m : List Stretch) → words (l ++ m) ≡ words l ++ words m
unfolding words
words_append [] m = refl
words_append (s ∷ l) m = rw (words_append l m)

words-length : (l : List Stretch) → length (words l) ≡ 2 * length l
unfolding words
words-length [] = refl
words-length (s ∷ l) = omega (arith, words-length l)

copy_is : (out : List ℕ) (to : ℕ) (src : List ℕ) (from n : ℕ) → to + n ≤ length out → from + n ≤ length src → copied out to src from n ≡ pasted out to src from n
unfolding copied inside
copy_is out to src from n h k = rw (le-leb (to + n) (length out) h, le-leb (from + n) (length src) k)

one_more : (done : List Stored) (f : Stored) → records_bytes marked (done ++ f ∷ []) ≡ records_bytes marked done ++ record_bytes marked f
unfolding records_bytes
one_more done f = records_append marked done (f ∷ []) ∙ ap (λ (l : List ℕ). records_bytes marked done ++ l) (append-nil (record_bytes marked f))

-- a stretch behind others
module _ {list₀ list : List ℕ} (gaps : List Stretch) {n : ℕ} (count : n ≡ length gaps) (from to : ℕ) (b : Begins list₀ (words gaps) list) (room : 2 * length (gaps ++ gap_of from to) ≤ length list₀) where
  gap_fits : GapFits (length list) n from to
  gap_fits h = omega (arith, one_gap from to h, length-append gaps (gap_of from to), same_long b)

  gap_put_lem : {n' : ℕ} {list' : List ℕ} → (n', list') ≡ gap_put list n from to → (n' ≡ length (gaps ++ gap_of from to)) × Begins list₀ (words (gaps ++ gap_of from to)) list'
  gap_put_lem {n'} {list'} e =
      let g = gap_of from to in
      let e₁ : n' ≡ n + length g = ap (λ (x : ℕ × List ℕ). x.0) e in
      let e₂ : list' ≡ take (2 * n) list ++ words g ++ drop (2 * n + 2 * length g) list = ap (λ (x : ℕ × List ℕ). x.1) e in
      let k : 2 * n ≡ length (words gaps) = rw (count, words-length gaps) in
      let l : length (words gaps ++ words g) ≤ length list₀ = omega (arith, length-append (words gaps) (words g), words-length gaps, words-length g, length-append gaps g) in
      (e₁ ∙ rw count (sym (length-append gaps g)), rw (words_append gaps g) (put-more b (words g) l (e₂ ∙ rw (k, ← words-length g))))

-- ---- The loop

module _ (pack : List ℕ) (records : ℕ) (base list₀ : List ℕ) where
  -- i records and the stretches before them are put
  pub record Putting (out list : List ℕ) (i at to n : ℕ) : Type 0 where
    pub fit : Fits pack (length base) (length list₀) records
    pub done : List Stored
    pub gaps : List Stretch
    pub reached : Reached pack done gaps i at
    pub placed : to ≡ length (little 4 records ++ records_bytes marked done)
    pub numbered : n ≡ length gaps
    pub output : Begins base (little 4 records ++ records_bytes marked done) out
    pub listed : Begins list₀ (words gaps) list

  module _ {out list : List ℕ} {i at to n : ℕ} (p : Putting out list i at to n) (small : Small pack) where
    few : i < records → i < 4096
    few h = omega (arith, p.fit.count, (kept-lawful (pieces_scanned pack small)).1)

    -- a record stands there, since more are kept
    pub is_found : i < records → (r : Option Span) → Next pack at r → IsSome r
    is_found h (Some s) w = search rules
    is_found h None w =
        let k = ends_here pack p.reached small (few h) w refl in
        absurd (omega (arith, p.fit.count, ap length k.all_files, p.reached.count))

    module _ (h : i < records) {start end : ℕ} (next : NextRecord pack at start end) (found : StandsFrom pack start end) where
      onward : Reached pack (p.done ++ found.file ∷ []) (p.gaps ++ gap_of at start) (i + 1) end
      onward = turn pack p.reached small (few h) next found

      -- the output and the list have room
      out_room : length (little 4 records ++ records_bytes marked (p.done ++ found.file ∷ [])) ≤ length base
      out_room =
          let fs = p.done ++ found.file ∷ [] in
          let rest = kept_of (left_at pack (i + 1) end) in
          let a : length (records_bytes marked (kept_of (pieces_of pack))) ≡ length (records_bytes marked fs) + length (records_bytes marked rest)
          = ap (λ (gs : List Stored). length (records_bytes marked gs)) onward.files ∙ ap length (records_append marked fs rest) ∙ length-append (records_bytes marked fs) (records_bytes marked rest) in
          omega (arith, length-append (little 4 records) (records_bytes marked fs), length-little 4 records, a, pack_length (kept_of (pieces_of pack)), p.fit.room)

      list_room : 2 * length (p.gaps ++ gap_of at start) ≤ length list₀
      list_room =
          let rest = stretches end (left_at pack (i + 1) end) in
          omega (arith, ap length onward.skips, length-append (p.gaps ++ gap_of at start) rest, p.fit.listed)

      pub gap_room : GapFits (length list) n at start
      gap_room = gap_fits p.gaps p.numbered at start p.listed list_room

      record_size : end - start ≡ length (record_bytes marked found.file)
      record_size = omega (arith, found.behind)

      placed_on : to + (end - start) ≡ length (little 4 records ++ records_bytes marked (p.done ++ found.file ∷ []))
      placed_on =
          omega (
            arith,
            p.placed,
            length-append (little 4 records) (records_bytes marked p.done),
            length-append (little 4 records) (records_bytes marked (p.done ++ found.file ∷ [])),
            one_more-length p.done found.file,
            record_size,
          )

      pub copy-ends : to + (end - start) ≤ length base
      copy-ends = omega (arith, placed_on, out_room)

      record_there : take (end - start) (drop start pack) ≡ record_bytes marked found.file
      record_there = rw (record_size, found.stands.parts) (take-append_seam (record_bytes marked found.file) (drop end pack))

      one_put : {out' : List ℕ} → out' ≡ copied out to pack start (end - start) → Begins base (little 4 records ++ records_bytes marked (p.done ++ found.file ∷ [])) out'
      unfolding pasted
      one_put {out'} e =
          let front = little 4 records ++ records_bytes marked p.done in
          let more = record_bytes marked found.file in
          let whole : front ++ more ≡ little 4 records ++ records_bytes marked (p.done ++ found.file ∷ [])
          = append_assoc (little 4 records) (records_bytes marked p.done) more ∙ ap (λ (l : List ℕ). little 4 records ++ l) (sym (one_more p.done found.file)) in
          let k : start + (end - start) ≤ length pack = omega (arith, next.inside, next.onward) in
          let c : out' ≡ take (length front) out ++ more ++ drop (length front + length more) out
          = e ∙ copy_is out to pack start (end - start) (omega (arith, same_long p.output, copy-ends)) k
          ∙ ap (λ (l : List ℕ). take to out ++ l ++ drop (to + (end - start)) out) record_there
          ∙ ap (λ (m : ℕ). take to out ++ more ++ drop (to + m) out) record_size
          ∙ ap (λ (m : ℕ). take m out ++ more ++ drop (m + length more) out) p.placed in
          subst (λ (l : List ℕ). Begins base l out') whole (put-more p.output more (rw whole out_room) c)

      pub put-turn : {out' list' : List ℕ} {n' : ℕ} → (n', list') ≡ gap_put list n at start → out' ≡ copied out to pack start (end - start)
          → Putting out' list' (i + 1) end (to + (end - start)) n'
      put-turn e o =
          let g = gap_put_lem p.gaps p.numbered at start p.listed list_room e in
          record {
            fit = p.fit;
            done = p.done ++ found.file ∷ [];
            gaps = p.gaps ++ gap_of at start;
            reached = onward;
            placed = placed_on;
            numbered = g.0;
            output = one_put o;
            listed = g.1;
          }

    -- all records are put, and what is left is skipped
    module _ (h : records ≤ i) where
      ends : Ended pack p.reached
      ends = ends-counted pack p.reached small (omega (arith, p.fit.count))

      last_room : 2 * length (p.gaps ++ gap_of at (length pack)) ≤ length list₀
      last_room = omega (arith, ap length ends.all_skips, p.fit.listed)

      pub last_fits : GapFits (length list) n at (length pack)
      last_fits = gap_fits p.gaps p.numbered at (length pack) p.listed last_room

      module _ {list' : List ℕ} {n' : ℕ} (e : (n', list') ≡ gap_put list n at (length pack)) where
        last_put : Begins list₀ (words (p.gaps ++ gap_of at (length pack))) list'
        last_put = (gap_put_lem p.gaps p.numbered at (length pack) p.listed last_room e).1

        pub list-long : length list' ≡ length list₀
        list-long = same_long last_put

        pub put-list : list' ≡ words (skipped_of pack) ++ drop (2 * length (skipped_of pack)) list₀
        put-list = rw (ends.all_skips, ← words-length (p.gaps ++ gap_of at (length pack))) last_put.is

      pub put_output : out ≡ new_pack pack ++ drop (length (new_pack pack)) base
      unfolding pack_bytes
      put_output =
          let c : records ≡ length p.done = p.fit.count ∙ ap length ends.all_files in
          rw (ends.all_files, ← c) p.output.is

-- ---- The file count before the loop, and the whole

behind_count : (out : List ℕ) (records k : ℕ) → drop (4 + k) (count_put out records) ≡ drop (4 + k) out
unfolding little
behind_count out records k =
    let e : drop 4 (count_put out records) ≡ drop 4 out = refl in
    sym (drop-drop k 4 (count_put out records)) ∙ ap (drop k) e ∙ drop-drop k 4 out

module _ (pack : List ℕ) (records : ℕ) (out list : List ℕ) (w : Fits pack (length out) (length list) records) where
  pub count_fits : 4 ≤ length out
  count_fits = omega (arith, w.room, pack_length (kept_of (pieces_of pack)))

  pub base_long : {base : List ℕ} → base ≡ count_put out records → length base ≡ length out
  base_long e = ap length e ∙ length-append (little 4 records) (drop 4 out) ∙ omega (arith, length-little 4 records, length-drop 4 out, count_fits)

  pub put-start : {base : List ℕ} → base ≡ count_put out records → Putting pack records base list base list 0 4 4 0
  unfolding records_bytes words
  put-start {base} e =
      let l : length (little 4 records ++ []) ≡ 4 = ap length (append-nil (little 4 records)) ∙ length-little 4 records in
      let d : drop 4 base ≡ drop 4 out = rw e (behind_count out records 0) in
      record {
        fit = record { long = w.long; count = w.count; room = omega (arith, base_long e, w.room); listed = w.listed };
        done = [];
        gaps = [];
        reached = begin pack w.long;
        placed = sym l;
        numbered = refl;
        output = record { fits = omega (arith, l, base_long e, count_fits); is = rw (l, d, append-nil (little 4 records)) e };
        listed = record { fits = omega arith; is = refl };
      }

  fits_both : salvage_for pack out list ≡ salvaged (new_pack pack) (skipped_of pack)
  unfolding salvage_of unless
  fits_both =
      rw (
        le-leb 4 (length pack) w.long,
        le-leb (length (new_pack pack)) (length out) w.room,
        le-leb (length (skipped_of pack)) (length list / 2) (omega (arith, w.listed)),
      )

  pub put-answer : answer_of (salvage_for pack out list) ≡ Ok (record { length = length (new_pack pack); stretches = length (skipped_of pack) })
  put-answer = ap answer_of fits_both

  pub whole_output : {base end : List ℕ} → base ≡ count_put out records → end ≡ new_pack pack ++ drop (length (new_pack pack)) base → end ≡ output_for pack out list
  unfolding output_of
  whole_output {base} {end} b e =
      let k = length (records_bytes marked (kept_of (pieces_of pack))) in
      let d : drop (length (new_pack pack)) base ≡ drop (length (new_pack pack)) out = rw (pack_length (kept_of (pieces_of pack)), b) (behind_count out records k) in
      e ∙ ap (λ (l : List ℕ). new_pack pack ++ l) d ∙ sym (ap (λ (x : Salvaged). output_of x out) fits_both)

  pub whole-list : {end : List ℕ} → end ≡ words (skipped_of pack) ++ drop (2 * length (skipped_of pack)) list → end ≡ list_for pack out list
  unfolding list_of
  whole-list e = e ∙ sym (ap (λ (x : Salvaged). list_of x list) fits_both)

-- ---- The answer

-- a refused salvage
pub record Refuses (pack out list : List ℕ) (number place : ℕ) : Type 0 where
  pub answer : Err (code.refusal number place) ≡ answer_of (salvage_for pack out list)
  pub same_output : out ≡ output_for pack out list
  pub same_list : list ≡ list_for pack out list

module _ (pack out list : List ℕ) where
  refuses : {number place : ℕ} → salvage_for pack out list ≡ refusal number place → Refuses pack out list number place
  unfolding output_of list_of
  refuses e = record { answer = ap answer_of (sym e); same_output = sym (ap (λ (x : Salvaged). output_of x out) e); same_list = sym (ap (λ (x : Salvaged). list_of x list) e) }

  pub too_short : length pack < 4 → Refuses pack out list 1 0
  unfolding salvage_of unless
  too_short h = refuses (rw (lt-leb 4 (length pack) h))

  pub no_output : 4 ≤ length pack → length out < length (new_pack pack) → Refuses pack out list 21 (length (new_pack pack))
  unfolding salvage_of unless
  no_output h k = refuses (rw (le-leb 4 (length pack) h, lt-leb (length (new_pack pack)) (length out) k))

  pub no_list : 4 ≤ length pack → length (new_pack pack) ≤ length out → length list / 2 < length (skipped_of pack) → Refuses pack out list 52 (length (skipped_of pack))
  unfolding salvage_of unless
  no_list h k l =
      refuses (rw (le-leb 4 (length pack) h, le-leb (length (new_pack pack)) (length out) k, lt-leb (length (skipped_of pack)) (length list / 2) l))
