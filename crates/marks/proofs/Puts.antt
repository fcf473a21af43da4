-- The records of a pack put one after the other into an output, in the other form. Assumes nothing.
use mathlib.Core.Path.{◌≡◌, refl, sym, ap, ◌∙◌}
use mathlib.Core.Bool.{Bool, true, false, not}
use mathlib.Core.List.{List, [], ◌∷◌, ◌++◌, append-nil, append_assoc}
use Prim.Native.Nat.{ℕ, ◌+◌, ◌-◌, ◌≤◌, ◌<◌}
use native.Mathlib.Omega.{arith}
use borrow.Author.Rules.{rules}
use lib.Dec.{leb}
use lib.ListN.{length, take, drop, length-append, length-drop}
use lib.Seq.{drop-drop, take-append_seam, drop-append_seam}
use borrow.Author.Tests.{le-leb}
use Rattle.laws.specs.Small.{differ}
use Rattle.fill.specs.Fill.{copied}
use Rattle.fill.specs.Copies.{copy-puts}
use Rattle.layout.specs.Number.{little}
use Rattle.reading.specs.Answer.{read}
use Rattle.reading.specs.Reads.{seam}
use Rattle.reading.specs.Little.{length-little}
use Rattle.reading.specs.Output.{fitted, output_of}
use Rattle.pack_layout.specs.Pack as layout
use Rattle.pack_layout.specs.Pack.{Stored, Lawful, plain, record_bytes, records_bytes, pack_bytes, Each, mark_of}
use Rattle.pack_layout.specs.Table.{entry_of}
use Rattle.pack_reading.specs.Pack.{record_at}
use Rattle.pack_reading.specs.Laws.{record_reads}
use Rattle.std.specs.Prelude.{Result, Ok, Err, IsOk}
use Rattle.answers.specs.declared.Refusal.{Refusal}
use Rattle.pack_records.specs.declared.Record.{Record}
use Rattle.pack_records.specs.Records.{entered, recorded}
use Rattle.packs.specs.Walk.{records_append, entry-end}
use Rattle.pack_writing.specs.Convert.{converts}
use Rattle.marks.specs.Converting.{Placed, placed, Fits, converted}

-- ---- A record, and its mark

-- a record is its mark and what the plain form has
marked_as : (mark : List ℕ) (f : Stored) → record_bytes mark f ≡ mark ++ record_bytes plain f
unfolding record_bytes
marked_as mark f = refl

mark-bytes : (marked : Bool) → take (length (mark_of marked)) (drop 0 layout.marked) ≡ mark_of marked
mark-bytes true = refl
mark-bytes false = refl

mark-long : (marked : Bool) → length (mark_of marked) ≤ length layout.marked
mark-long true = omega arith
mark-long false = omega arith

lawful_next : (done : List Stored) (f : Stored) (left : List Stored) → Each Lawful (done ++ f ∷ left) → Lawful f
unfolding Each
lawful_next [] f left h = h.0
lawful_next (g ∷ done) f left h = lawful_next done f left h.1

-- ---- The loop

-- the file count and some records
abbrev before : (mark : List ℕ) (n : ℕ) (done : List Stored) → List ℕ
before mark n done = little 4 n ++ records_bytes mark done

before_long : (mark : List ℕ) (n : ℕ) (done : List Stored) → length (before mark n done) ≡ 4 + length (records_bytes mark done)
before_long mark n done = length-append (little 4 n) (records_bytes mark done) ∙ ap (λ (k : ℕ). k + length (records_bytes mark done)) (length-little 4 n)

-- a pack whose files are some, one and others
taken-apart : (mark : List ℕ) (n : ℕ) (done : List Stored) (f : Stored) (left : List Stored)
    → little 4 n ++ records_bytes mark (done ++ f ∷ left) ≡ before mark n done ++ (record_bytes mark f ++ records_bytes mark left)
unfolding records_bytes
taken-apart mark n done f left = rw (records_append mark done (f ∷ left)) (sym (append_assoc (little 4 n) (records_bytes mark done) (record_bytes mark f ++ records_bytes mark left)))

one_more : (mark : List ℕ) (n : ℕ) (done : List Stored) (f : Stored) → before mark n (done ++ f ∷ []) ≡ before mark n done ++ record_bytes mark f
unfolding records_bytes
one_more mark n done f = rw (records_append mark done (f ∷ []), append-nil (record_bytes mark f)) (sym (append_assoc (little 4 n) (records_bytes mark done) (record_bytes mark f)))

module _ (marked : Bool) (pack : List ℕ) (n : ℕ) (base : List ℕ) where
  abbrev from : List ℕ
  from = mark_of (not marked)

  abbrev to : List ℕ
  to = mark_of marked

  -- i of the files are put: the others are next in the pack, at `at`, and are put from `next` on
  pub record Putting (out : List ℕ) (i at next : ℕ) : Type 0 where
    pub fit : Fits marked pack n (length base)
    pub done : List Stored
    pub left : List Stored
    pub split : fit.files ≡ done ++ left
    pub count : length done ≡ i
    pub place : at ≡ length (before from n done)
    pub written : next ≡ length (before to n done)
    pub stands : out ≡ before to n done ++ drop next base

  module _ {out : List ℕ} {i at next : ℕ} (r : Putting out i at next) where
    pub put-length : length out ≡ length base
    unfolding pack_bytes
    put-length =
        let m : 4 + length (records_bytes to r.fit.files) ≤ length base = omega (arith, before_long to (length r.fit.files) r.fit.files, r.fit.room) in
        let l : length (records_bytes to r.fit.files) ≡ length (records_bytes to r.done) + length (records_bytes to r.left)
        = ap (λ (x : List Stored). length (records_bytes to x)) r.split ∙ ap length (records_append to r.done r.left) ∙ length-append (records_bytes to r.done) (records_bytes to r.left) in
        ap length r.stands ∙ length-append (before to n r.done) (drop next base) ∙ omega (arith, length-drop next base, r.written, before_long to n r.done)

    -- a file that is next
    record Next : Type 0 where
      file : Stored
      others : List Stored
      is : r.left ≡ file ∷ others

    next_file : i < n → Next
    next_file h = go r.left refl where
      go : (left : List Stored) → r.left ≡ left → Next
      go [] e = absurd (omega (arith, r.count, r.fit.count, ap length r.split, length-append r.done r.left, ap length e))
      go (f ∷ left) e = record { file = f; others = left; is = e }

    module _ (w : Next) where
      all_files : r.fit.files ≡ r.done ++ w.file ∷ w.others
      all_files = r.split ∙ ap (λ (l : List Stored). r.done ++ l) w.is

      pack_is : pack ≡ before from n r.done ++ (record_bytes from w.file ++ records_bytes from w.others)
      unfolding pack_bytes
      pack_is =
          r.fit.lays.parts ∙ rw (r.fit.count, all_files) (taken-apart from n r.done w.file w.others)

      here : drop at pack ≡ record_bytes from w.file ++ records_bytes from w.others
      here = rw (r.place, pack_is) (drop-append_seam (before from n r.done) (record_bytes from w.file ++ records_bytes from w.others))

      reads : record_at from pack at ≡ read w.file (at + length (record_bytes from w.file))
      reads =
          let l : Lawful w.file = lawful_next r.done w.file w.others (rw all_files at r.fit.lays.lawful) in
          (record_reads from pack).complete w.file (record_bytes from w.file) (records_bytes from w.others) at (l, refl) here

      ends : {put : Record} → Ok put ≡ recorded from at (record_at from pack at) → put.first + put.count ≡ at + length (record_bytes from w.file)
      ends {put} q =
          let p : Ok put ≡ recorded from at (read w.file (at + length (record_bytes from w.file))) = rw reads at q in
          let e : put ≡ entered (entry_of from at w.file) = cc in
          rw e (entry-end from at w.file)

      inside_pack : at + length (record_bytes from w.file) ≤ length pack
      inside_pack =
          let l : length pack ≡ length (before from n r.done) + (length (record_bytes from w.file) + length (records_bytes from w.others))
          = ap length pack_is ∙ length-append (before from n r.done) _ ∙ ap (λ (k : ℕ). length (before from n r.done) + k) (length-append (record_bytes from w.file) (records_bytes from w.others)) in
          omega (arith, r.place)

      inside_out : next + length (record_bytes to w.file) ≤ length base
      unfolding pack_bytes
      inside_out =
          let e : pack_bytes to r.fit.files ≡ before to n r.done ++ (record_bytes to w.file ++ records_bytes to w.others)
          = rw (r.fit.count, all_files) (taken-apart to n r.done w.file w.others) in
          let l : length (pack_bytes to r.fit.files) ≡ length (before to n r.done) + (length (record_bytes to w.file) + length (records_bytes to w.others))
          = ap length e ∙ length-append (before to n r.done) _ ∙ ap (λ (k : ℕ). length (before to n r.done) + k) (length-append (record_bytes to w.file) (records_bytes to w.others)) in
          omega (arith, r.written, r.fit.room)

      from_long : length (record_bytes from w.file) ≡ length from + length (record_bytes plain w.file)
      from_long = ap length (marked_as from w.file) ∙ length-append from (record_bytes plain w.file)

      to_long : length (record_bytes to w.file) ≡ length to + length (record_bytes plain w.file)
      to_long = ap length (marked_as to w.file) ∙ length-append to (record_bytes plain w.file)

      body : take (length (record_bytes plain w.file)) (drop (at + length from) pack) ≡ record_bytes plain w.file
      body =
          let others = records_bytes from w.others in
          let e : drop at pack ≡ (from ++ record_bytes plain w.file) ++ others = here ∙ ap (λ (l : List ℕ). l ++ others) (marked_as from w.file) in
          rw (seam pack at from (record_bytes plain w.file) others e) (take-append_seam (record_bytes plain w.file) others)

      one_put : placed marked pack out at (at + length (record_bytes from w.file)) next
          ≡ (next + length (record_bytes to w.file), before to n (r.done ++ w.file ∷ []) ++ drop (next + length (record_bytes to w.file)) base)
      one_put =
          let b = before to n r.done in
          let k = length (record_bytes plain w.file) in
          let size : at + length (record_bytes from w.file) - (at + length from) ≡ k = omega (arith, from_long) in
          let end : next + length to + k ≡ next + length (record_bytes to w.file) = omega (arith, to_long) in
          let long : length (b ++ to) ≡ next + length to = length-append b to ∙ ap (λ (m : ℕ). m + length to) (sym r.written) in
          let mark : copied out next layout.marked 0 (length to) ≡ (b ++ to) ++ drop (next + length to) base
          = rw r.stands (copy-puts base b next (sym r.written) layout.marked 0 (length to) (omega (arith, inside_out, to_long)) (omega (arith, mark-long marked)) ∙ rw (mark-bytes marked)) in
          let rest : copied ((b ++ to) ++ drop (next + length to) base) (next + length to) pack (at + length from) k ≡ ((b ++ to) ++ record_bytes plain w.file) ++ drop (next + length to + k) base
          = copy-puts base (b ++ to) (next + length to) long pack (at + length from) k (omega (arith, inside_out)) (omega (arith, inside_pack, from_long)) ∙ rw body in
          let whole : (b ++ to) ++ record_bytes plain w.file ≡ before to n (r.done ++ w.file ∷ [])
          = append_assoc b to (record_bytes plain w.file) ∙ ap (λ (l : List ℕ). b ++ l) (sym (marked_as to w.file)) ∙ sym (one_more to n r.done w.file) in
          rw (size, mark, rest, whole, end)

    module _ (h : i < n) where
      pub is_read : (r : Result Record Refusal) → r ≡ recorded from at (record_at from pack at) → IsOk r
      is_read (Ok put) q = search rules
      is_read (Err e) q =
          let w = next_file h in
          let p : Err e ≡ recorded from at (read w.file (at + length (record_bytes from w.file))) = rw (reads w) at q in
          differ cc

      module _ {put : Record} (q : Ok put ≡ recorded from at (record_at from pack at)) where
        pub ends-inside : put.first + put.count ≤ length pack
        ends-inside = let w = next_file h in omega (arith, ends w q, inside_pack w)

        pub has-place : Placed marked pack out at (put.first + put.count) next
        has-place =
            let w = next_file h in
            (omega (arith, ends w q, from_long w), ends-inside, omega (arith, ends w q, from_long w, to_long w, inside_out w, put-length))

        pub turn : {out' : List ℕ} {next' : ℕ} → (next', out') ≡ placed marked pack out at (put.first + put.count) next → Putting out' (i + 1) (put.first + put.count) next'
        turn {out'} {next'} e =
            let w = next_file h in
            let p : ◌≡◌ {A = ℕ × List ℕ} (next', out') (next + length (record_bytes to w.file), before to n (r.done ++ w.file ∷ []) ++ drop (next + length (record_bytes to w.file)) base)
            = e ∙ rw (ends w q) (one_put w) in
            let e₁ : next' ≡ next + length (record_bytes to w.file) = ap (λ (x : ℕ × List ℕ). x.0) p in
            let e₂ : out' ≡ before to n (r.done ++ w.file ∷ []) ++ drop (next + length (record_bytes to w.file)) base = ap (λ (x : ℕ × List ℕ). x.1) p in
            let a = length-append (before from n r.done) (record_bytes from w.file) in
            let b = length-append (before to n r.done) (record_bytes to w.file) in
            record {
              fit = r.fit;
              done = r.done ++ w.file ∷ [];
              left = w.others;
              split = all_files w ∙ sym (append_assoc r.done (w.file ∷ []) w.others);
              count = length-append r.done (w.file ∷ []) ∙ ap (λ (m : ℕ). m + 1) r.count;
              place = rw (one_more from n r.done w.file) (omega (arith, a, ends w q, r.place));
              written = rw (one_more to n r.done w.file) (omega (arith, b, e₁, r.written));
              stands = rw e₁ e₂;
            }

    none_left : n ≤ i → r.fit.files ≡ r.done
    none_left h = go r.left refl where
      go : (left : List Stored) → r.left ≡ left → r.fit.files ≡ r.done
      go [] e = r.split ∙ ap (λ (l : List Stored). r.done ++ l) e ∙ append-nil r.done
      go (f ∷ left) e = absurd (omega (arith, r.count, r.fit.count, ap length r.split, length-append r.done r.left, ap length e))

-- ---- The file count before the loop, and the whole after it

module _ (marked : Bool) (pack : List ℕ) (n : ℕ) (out : List ℕ) (w : Fits marked pack n (length out)) {base : List ℕ} (put : base ≡ copied out 0 pack 0 4) where
  long_pack : 4 ≤ length pack
  unfolding pack_bytes
  long_pack = omega (arith, ap length w.lays.parts, before_long (mark_of (not marked)) (length w.files) w.files)

  long_out : 4 ≤ length out
  unfolding pack_bytes
  long_out = omega (arith, w.room, before_long (mark_of marked) (length w.files) w.files)

  four : take 4 pack ≡ little 4 n
  unfolding pack_bytes
  four =
      let l : 4 ≡ length (little 4 n) = sym (length-little 4 n) in
      let s = records_bytes (mark_of (not marked)) w.files in
      let p : pack ≡ little 4 n ++ s = rw (← w.count) w.lays.parts in
      rw p (ap (λ (k : ℕ). take k (little 4 n ++ s)) l ∙ take-append_seam (little 4 n) s)

  base_is : base ≡ little 4 n ++ drop 4 out
  base_is = put ∙ copy-puts out [] 0 refl pack 0 4 long_out long_pack ∙ rw four

  base_drop : drop 4 base ≡ drop 4 out
  base_drop = rw base_is (ap (λ (k : ℕ). drop k (little 4 n ++ drop 4 out)) (sym (length-little 4 n)) ∙ drop-append_seam (little 4 n) (drop 4 out))

  pub base_long : length base ≡ length out
  base_long = ap length base_is ∙ length-append (little 4 n) (drop 4 out) ∙ omega (arith, length-little 4 n, length-drop 4 out, long_out)

  pub start : Putting marked pack n base base 0 4 4
  unfolding records_bytes
  start =
      let e : little 4 n ++ [] ≡ little 4 n = append-nil (little 4 n) in
      record {
        fit = record { files = w.files; lays = w.lays; count = w.count; room = omega (arith, base_long, w.room) };
        done = [];
        left = w.files;
        split = refl;
        count = refl;
        place = rw e (sym (length-little 4 n));
        written = rw e (sym (length-little 4 n));
        stands = rw (e, base_drop) base_is;
      }

  pub ended : {end : List ℕ} {i at next : ℕ} → Putting marked pack n base end i at next → n ≤ i → end ≡ output_of (converted marked pack (length out)) out
  unfolding pack_bytes fitted output_of
  ended {end} {i} {at} {next} r h =
      let to = mark_of marked in
      let fs = r.fit.files in
      let d : fs ≡ r.done = none_left marked pack n base r h in
      let b : before to n r.done ≡ pack_bytes to fs = rw (← d, ← r.fit.count) in
      let l : next ≡ length (pack_bytes to fs) = r.written ∙ ap length b in
      let m : 4 + (next - 4) ≡ next = omega (arith, r.written, before_long to n r.done) in
      let t : drop next base ≡ drop next out
      = ap (λ (k : ℕ). drop k base) (sym m) ∙ sym (drop-drop (next - 4) 4 base) ∙ ap (drop (next - 4)) base_drop ∙ drop-drop (next - 4) 4 out ∙ ap (λ (k : ℕ). drop k out) m in
      let c : converted marked pack (length out) ≡ fitted (pack_bytes to fs) (length out) = converts (mark_of (not marked)) to fs pack (length out) r.fit.lays in
      let f : leb (length (pack_bytes to fs)) (length out) ≡ true = le-leb (length (pack_bytes to fs)) (length out) (omega (arith, r.fit.room, base_long)) in
      let e : end ≡ pack_bytes to fs ++ drop (length (pack_bytes to fs)) out = r.stands ∙ rw (b, t, l) in
      e ∙ sym (rw (c, f))
