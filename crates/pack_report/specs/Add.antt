-- What adding a pack to a report answers in code, and what it leaves (02, Req 14). Assumes nothing.
use Rattle.std.specs.Prelude.{◌≡◌, true, false, ℕ, ◌*◌, ◌-◌, ◌≤◌, ◌<◌, ◌^◌, take, drop, Result, Ok, Err, ⊤}
use Rattle.std.proofs.Math.Path.{refl}
use Rattle.std.proofs.Common.{Bool, is_err, sym, ap, ◌∙◌, take-append-drop, le-leb}
use mathlib.Core.List.{List, [], ◌∷◌, ◌++◌}
use native.Mathlib.Omega.{arith}
use Rattle.std.proofs.Math.ListN.{length, replicate}
use Rattle.std.proofs.lemmas.List.{length-replicate}
use Rattle.std.proofs.lemmas.Bool.{lt-leb}
use Rattle.laws.specs.Small.{differ}
use Rattle.layout.specs.Table.{room_of}
use Rattle.fill.specs.Fill.{cleared}
use Rattle.reading.specs.Answer.{Answer, refused, read}
use Rattle.reading.specs.Reads.{Small, small-drop, small_left}
use Rattle.pack_layout.specs.Pack.{Stored, plain, PackLays}
use Rattle.pack_layout.specs.Table.{Entry, flat, entries, files_room as pack_room}
use Rattle.pack_layout.specs.Parts.{Names}
use Rattle.pack_reading.specs.Pack.{Pack, refusal, accepted, pack_at, to_pack, pack_of, table_of, table_for}
use Rattle.pack_reading.specs.Parts.{names}
use Rattle.pack_reading.proofs.Theorems.{pack_sound}
use Rattle.packs.specs.Files as packs
use Rattle.pack_sums.specs.Sum.{answer_of}
use Rattle.load_part.specs.Part.{opened}
use Rattle.pack_figures.specs.Figures.{Figure, of_files, of_pack}
use Rattle.pack_figures.specs.Report as Report
use Rattle.pack_figures.specs.Report.{report, fits, sum_of, left, unchanged, added, by_pack, add_of, table_left}
use Rattle.pack_counts.specs.Raise.{counted, counted-alike, counted-report}
use Rattle.answers.specs.declared.Refusal.{Refusal}
use Rattle.answers.specs.Refusals as answers
use Rattle.pack_report.specs.Files.{of_entries, entries_are}
use Rattle.pack_files.specs.Xnb.{Clear, content-below}

-- a refusal, or that the pack is added
abbrev pub Adding : Type 0
Adding = Result ⊤ Refusal

abbrev pub added_as : Report.Added → Adding
added_as = answer_of

-- what adding a pack answers under a lent list of enum types, where so many words of rows and of a pack table are lent
abbrev pub add_under : (enums : List ℕ) (row_words pack_words : ℕ) (report pack : List ℕ) → Report.Added
add_under enums = add_of (opened enums)

-- the same once 72 is out of the way
abbrev pub add_read : (enums pack : List ℕ) (pack_words : ℕ) (report : List ℕ) → Report.Added
add_read enums pack pack_words report = by_pack (opened enums) (pack_of plain pack pack_words) report

-- the table is what the reader of packs left, which read so many files
abbrev pub Listed : (pack table : List ℕ) (files : ℕ) → Type 0
Listed pack table files = (Ok files ≡ packs.answer_of (pack_of plain pack (length table))) × (table ≡ table_for plain pack (length table))

-- ---- A pack that was read

pub record Has (pack : List ℕ) (words files : ℕ) : Type 0 where
  pub stored : List Stored
  pub is : pack_of plain pack words ≡ accepted stored
  pub count : files ≡ length stored
  pub lays : PackLays plain stored pack

module _ (pack : List ℕ) (small : Small pack) where
  pub has : (words : ℕ) {files : ℕ} → Ok files ≡ packs.answer_of (pack_of plain pack words) → Has pack words files
  unfolding pack_of to_pack
  has words {files} e = go (pack_at plain pack (pack_room words)) refl e where
    go : (x : Answer (List Stored)) → pack_at plain pack (pack_room words) ≡ x → Ok files ≡ packs.answer_of (to_pack x) → Has pack words files
    go (refused n p) q e = differ cc
    go (read fs end) q e = record {
      stored = fs;
      is = rw q;
      count = cc;
      lays = ((pack_sound plain pack (pack_room words) small).got q).0;
    }

  part_small : (first count : ℕ) (content : List ℕ) → take count (drop first pack) ≡ content → Small content
  part_small first count content e =
      rw (← e) (small_left (take count (drop first pack)) (drop count (drop first pack)) (rw (take-append-drop count (drop first pack)) (small-drop first pack small)))

  module _ (enums : List ℕ) where
    files_below : (es : List Entry) (fs : List Stored) → Names pack es fs → (f : Figure) → of_files (opened enums) fs f ≤ length fs * 2 ^ 49
    unfolding Names of_files
    files_below [] [] n f = omega arith
    files_below [] (s ∷ fs) n f = absurd n
    files_below (e ∷ es) [] n f = absurd n
    files_below (e ∷ es) (s ∷ fs) n f =
        omega (arith, content-below enums s.content (part_small e.data_start e.data_length s.content n.0.data_part.bytes_are) f, files_below es fs n.1 f)

    -- one pack's figures, counted from zeros on
    pub pack_figures : (table : List ℕ) {files : ℕ} (h : Has pack (length table) files) → table ≡ table_for plain pack (length table)
        → counted (of_entries (opened enums) pack table 0 files) (replicate 132 0) ≡ report (of_pack (opened enums) (accepted h.stored))
    unfolding table_of of_pack
    pack_figures table {files} h t =
        let fs = h.stored in
        let w = names plain pack fs h.lays in
        let y : table ≡ flat (entries plain 4 fs) ++ replicate (length table - 4 * length fs) 0 = rw h.is at t in
        counted-alike (of_entries (opened enums) pack table 0 files) (of_files (opened enums) fs) (λ f. rw (h.count, y) (entries_are (opened enums) pack (entries plain 4 fs) fs (replicate (length table - 4 * length fs) 0) w f)) (replicate 132 0)
        ∙ counted-report (of_files (opened enums) fs) (λ f. omega (arith, files_below (entries plain 4 fs) fs w f, h.lays.not_many))

-- ---- The answer

module _ (enums pack : List ℕ) (words : ℕ) {files : ℕ} (h : Has pack words files) (into figures : List ℕ) (e : figures ≡ report (of_pack (opened enums) (accepted h.stored))) where
  abbrev answer : Report.Added
  answer = by_pack (opened enums) (pack_of plain pack words) into

  by_sum : answer ≡ sum_of into figures
  unfolding by_pack
  by_sum = rw (h.is, e)

  pub is_value : answer_of (sum_of into figures) ≡ added_as answer
  is_value = ap answer_of (sym by_sum)

  pub is_left : left (sum_of into figures) into ≡ left answer into
  is_left = ap (λ (x : Report.Added). left x into) (sym by_sum)

  -- the table is kept where the sum fits, and else cleared
  pub table_kept : (r : Adding) → r ≡ answer_of (sum_of into figures) → is_err r ≡ false → table_for plain pack words ≡ table_left answer words pack
  unfolding sum_of table_left
  table_kept r e o = go (fits into figures) refl where
    go : (t : Bool) → fits into figures ≡ t → table_for plain pack words ≡ table_left answer words pack
    go true t = rw (by_sum, t) refl
    go false t = let z : r ≡ Err (answers.refusal 71 0) = rw t at e in let y : true ≡ false = sym (ap is_err z) ∙ o in differ cc

  pub table_cleared : (r : Adding) → r ≡ answer_of (sum_of into figures) → is_err r ≡ true → replicate words 0 ≡ table_left answer words pack
  unfolding sum_of table_left
  table_cleared r e o = go (fits into figures) refl where
    go : (t : Bool) → fits into figures ≡ t → replicate words 0 ≡ table_left answer words pack
    go true t = let z : r ≡ Ok tt = rw t at e in let y : false ≡ true = sym (ap is_err z) ∙ o in differ cc
    go false t = rw (by_sum, t) refl

module _ (enums pack into : List ℕ) (row_words words : ℕ) where
  abbrev whole : Report.Added
  whole = add_under enums row_words words into pack

  pub room_enough : 65536 ≤ room_of row_words → by_pack (opened enums) (pack_of plain pack words) into ≡ whole
  unfolding add_of
  room_enough h = rw (le-leb 65536 (room_of row_words) h)

  pub no_room : room_of row_words < 65536 → (Err (answers.refusal 72 0) ≡ added_as whole) × (into ≡ left whole into) × (replicate words 0 ≡ table_left whole words pack)
  unfolding add_of left table_left
  no_room h = rw (lt-leb 65536 (room_of row_words) h) (refl, refl, refl)

  pack_not : (x : Pack) {r : Refusal} → Err r ≡ packs.answer_of x → (Err r ≡ added_as (by_pack (opened enums) x into)) × (into ≡ left (by_pack (opened enums) x into) into)
      × (table_of plain x words ≡ table_left (by_pack (opened enums) x into) words pack)
  unfolding by_pack left table_left table_of
  pack_not (refusal m q) {r} e = let z : r ≡ answers.refusal m q = cc in (rw z, refl, refl)
  pack_not (accepted fs) e = differ cc

  pub pack_refused : 65536 ≤ room_of row_words → {r : Refusal} → Err r ≡ packs.answer_of (pack_of plain pack words)
      → (Err r ≡ added_as whole) × (into ≡ left whole into) × (table_for plain pack words ≡ table_left whole words pack)
  pack_refused h e = rw (← room_enough h) (pack_not (pack_of plain pack words) e)

-- zeros from the first word on
pub all_cleared : (l : List ℕ) → cleared l 0 ≡ replicate (length l) 0
unfolding cleared
all_cleared l = let z : length l - 0 ≡ length l = omega arith in rw z

room_cleared : (l : List ℕ) {r : ℕ} → r ≡ room_of (length (cleared l 0)) → r ≡ room_of (length l)
room_cleared l e = e ∙ ap (λ (m : List ℕ). room_of (length m)) (all_cleared l) ∙ ap room_of (length-replicate {A = ℕ} (length l) 0)

pub room_below : (l : List ℕ) {r : ℕ} → r ≡ room_of (length (cleared l 0)) → r < 65536 → room_of (length l) < 65536
room_below l e h = omega (arith, room_cleared l e)

pub room_above : (l : List ℕ) {r : ℕ} → r ≡ room_of (length (cleared l 0)) → 65536 ≤ r → 65536 ≤ room_of (length l)
room_above l e h = omega (arith, room_cleared l e)

pub clear_so : (l : List ℕ) {r : ℕ} → r ≡ room_of (length (cleared l 0)) → 65536 ≤ r → Clear (cleared l 0)
unfolding room_of
clear_so l e h =
    let n : length (cleared l 0) ≡ length l = ap length (all_cleared l) ∙ length-replicate {A = ℕ} (length l) 0 in
    record { room = omega (arith, e, h); zeros = rw n (all_cleared l) }

pub listed : (pack entry exit : List ℕ) {files : ℕ} → length exit ≡ length entry → Ok files ≡ packs.answer_of (pack_of plain pack (length entry))
    → exit ≡ table_for plain pack (length entry) → Listed pack exit files
listed pack entry exit n e t = rw n (e, t)
