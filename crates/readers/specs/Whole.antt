-- What reading the whole reader list and the shared count answers, by its parts: laws. Assumes nothing.
use Rattle.std.specs.Prelude.{◌≡◌, Bool, ℕ, ◌-◌, ◌<◌, ◌≤◌, leb, length}
use Rattle.std.proofs.Math.Path.{refl, sym}
use Rattle.std.proofs.Common.{◌∙◌, le-leb}
use Rattle.std.proofs.Math.Bool.{true, false}
use mathlib.Core.List.{List, append-nil}
use native.Mathlib.Omega.{arith}
use Rattle.std.proofs.lemmas.Bool.{lt-leb}
use Rattle.layout.specs.Target.{Target}
use Rattle.layout.specs.EnumList.{EnumEntry}
use Rattle.reading.specs.Answer.{Answer, refused, read, bind, check, several}
use Rattle.reading.specs.Seven.{seven_at}
use Rattle.reading.specs.File.{readers_at, lists_at}
use Rattle.readers.specs.Judged.{judged_name}
use Rattle.readers.specs.Parts.{up_to}
use Rattle.readers.specs.Turns.{Underway}
use Rattle.readers.specs.Contract.{Reading, counted_at, lists_of, ListsRead, lists_total, counted_total}
use Rattle.readers.specs.Room.{up_to_bound}
use Rattle.readers.specs.Passing.{lists_total_lem}
use Rattle.numbers.specs.Padded.{past, pad_of}
use Rattle.laws.specs.Small.{differ}

-- a file that the header's rules let through is not longer
pub short_file_lem : (es : List EnumEntry) (file : List ℕ) (at : ℕ) → length file ≤ 16777216 → lists_of es file at ≡ lists_at (judged_name es) file at
unfolding lists_of check
short_file_lem es file at h = rw (le-leb (length file) 16777216 h)

-- behind the reader count
module _ (es : List EnumEntry) (file : List ℕ) (n at : ℕ) where
  pub readers-refused : {k p : ℕ} → readers_at (judged_name es) file n at ≡ refused k p → counted_at es file n at ≡ refused k p
  unfolding counted_at bind
  readers-refused q = rw q

  module _ {codes codes' targets starts : List ℕ} {used next sum : ℕ} (u : Underway es file codes codes' targets starts n at n used next sum) where
    all_read : readers_at (judged_name es) file n at ≡ read (u.reached.names, u.reached.readers) next
    unfolding readers_at several bind
    all_read =
        let z : n - n ≡ 0 = omega arith in
        u.reached.answer ∙ rw (z, append-nil u.reached.names, append-nil u.reached.readers)

    pub shared_refused : {k p : ℕ} → up_to 256 file next ≡ refused k p → counted_at es file n at ≡ refused k p
    unfolding counted_at bind
    shared_refused q = rw (all_read, q)

    pub shared_read : n ≤ 64 → {s behind : ℕ} → up_to 256 file next ≡ read s behind → ListsRead (counted_at es file n at) file codes codes' targets starts n s behind
    unfolding counted_at bind
    shared_read few q =
        let r = u.reached in
        record {
          names = r.names;
          readers = r.readers;
          answer = rw (all_read, q);
          shared_few = up_to_bound 256 file next q;
          paired = r.names_are ∙ sym r.readers_are;
          listed = record {
            counts = sym r.readers_are;
            few = omega (arith, r.readers_are);
            stands = λ i h. (r.each i (omega (arith, r.readers_are))).stands;
          };
          codes_size = u.codes_size;
          targets_size = u.targets_size;
          starts_size = u.starts_size;
          kept = r.kept;
          named = λ i h. (r.each i (omega (arith, r.names_are))).there;
        }

-- a count that is read and tested, and what is read behind it
up_to-bind : {A : Type 0} (most : ℕ) (file : List ℕ) (at : ℕ) (k : ℕ → ℕ → Answer A) → bind (up_to most file at) k ≡ bind (seven_at file at) (λ n e. check (leb n most) 9 at (k n e))
unfolding up_to bind check
up_to-bind {A} most file at k = by_count (seven_at file at) where
  by_test : (b : Bool) (n e : ℕ) → bind (check b 9 at (read n e)) k ≡ check b 9 at (k n e)
  by_test true n e = refl
  by_test false n e = refl

  by_count : (x : Answer ℕ) → bind (bind x (λ n e. check (leb n most) 9 at (read n e))) k ≡ bind x (λ n e. check (leb n most) 9 at (k n e))
  by_count (refused m p) = refl
  by_count (read n e) = by_test (leb n most) n e

module _ (es : List EnumEntry) (file : List ℕ) (at : ℕ) where
  pub lists_long : 16777216 < length file → lists_of es file at ≡ refused 9 0
  unfolding lists_of check
  lists_long h = rw (lt-leb (length file) 16777216 h)

  module _ (h : length file ≤ 16777216) where
    -- what stands behind the reader count, as reading has it
    behind : (n e : ℕ) → Reading
    behind n e = bind (readers_at (judged_name es) file n e) (λ l shared. bind (seven_at file shared) (λ s next. check (leb s 256) 9 shared (read (l.0, l.1, s) next)))

    lists_are : lists_of es file at ≡ bind (up_to 64 file at) behind
    unfolding lists_at behind
    lists_are = short_file_lem es file at h ∙ sym (up_to-bind 64 file at behind)

    pub lists_refused : {k p : ℕ} → up_to 64 file at ≡ refused k p → lists_of es file at ≡ refused k p
    unfolding bind
    lists_refused q = lists_are ∙ rw q

    by_readers : (x : Answer (List (List ℕ) × List Target))
        → bind {B = List (List ℕ) × List Target × ℕ} x (λ l shared. bind (seven_at file shared) (λ s next. check (leb s 256) 9 shared (read (l.0, l.1, s) next)))
        ≡ bind {B = List (List ℕ) × List Target × ℕ} x (λ l e. bind (up_to 256 file e) (λ s next. read (l.0, l.1, s) next))
    unfolding bind
    by_readers (refused k p) = refl
    by_readers (read l e) = sym (up_to-bind 256 file e (λ s next. read (l.0, l.1, s) next))

    pub lists_counted : {n e : ℕ} → up_to 64 file at ≡ read n e → lists_of es file at ≡ counted_at es file n e
    unfolding bind behind counted_at
    lists_counted {n} {e} q = lists_are ∙ rw q (by_readers (readers_at (judged_name es) file n e))

    pub up_to-past : {n e : ℕ} → up_to 64 file at ≡ read n e → e ≡ past (seven_at file at) at
    unfolding up_to bind past check
    up_to-past {n} {e} q = go (seven_at file at) q where
      tested : (b : Bool) (m f : ℕ) → check b 9 at (read m f) ≡ read n e → e ≡ f
      tested true m f q = cc
      tested false m f q = differ cc

      go : (x : Answer ℕ) → bind x (λ n e. check (leb n 64) 9 at (read n e)) ≡ read n e → e ≡ past x at
      go (refused k p) q = differ cc
      go (read m f) q = tested (leb m 64) m f q

    -- the padding of all numbers is that of the reader count and of those behind it
    pub total_is : {n e own : ℕ} → up_to 64 file at ≡ read n e → own ≡ pad_of (seven_at file at) at → lists_total file at ≡ counted_total file e own
    unfolding lists_total counted_total
    total_is {n} {e} {own} q o = λ i. λ count. sym (lists_total_lem file count at e own (counted_total file e own count) o (up_to-past q) refl) i
