-- The records of a pack one after the other, and what they say of the whole pack. Assumes nothing.
use Rattle.std.specs.Prelude.{◌≡◌, Ok, Err}
use Rattle.std.proofs.Math.Path.{refl, ap}
use Rattle.std.proofs.Common.{sym, ◌∙◌}
use mathlib.Core.List.{List, [], ◌∷◌, ◌++◌, append-nil, append_assoc}
use Prim.Native.Nat.{ℕ, suc, ◌+◌, ◌-◌, ◌<◌, ◌≤◌, min}
use native.Mathlib.Omega.{arith}
use Rattle.std.proofs.Math.ListN.{length, length-append}
use borrow.Author.Tests.{le-leb, lt-leb, eq-eqb, ne_eqb}
use Rattle.laws.specs.Small.{differ}
use Rattle.answers.specs.declared.Refusal.{Refusal}
use Rattle.answers.specs.Refusals.{refusal}
use Rattle.reading.specs.Answer.{Answer, refused, read, bind, check, several}
use Rattle.reading.specs.Reads.{Small, next_of}
use Rattle.reading.specs.Little.{little_at, little_next, length-little}
use Rattle.pack_layout.specs.Pack.{Stored, record_bytes, records_bytes}
use Rattle.pack_layout.specs.Table.{entry, entry_of}
use Rattle.pack_reading.specs.Pack as pack
use Rattle.pack_reading.specs.Pack.{record_at, records_at, pack_at}
use Rattle.pack_reading.specs.Laws.{record_reads}
use Rattle.pack_records.specs.declared.Record.{Record}
use Rattle.pack_records.specs.Records.{entered, recorded}
use Rattle.packs.specs.Files.{files_from}

-- ---- A record

module _ (mark : List ℕ) where
  pub records_append : (fs gs : List Stored) → records_bytes mark (fs ++ gs) ≡ records_bytes mark fs ++ records_bytes mark gs
  unfolding records_bytes
  records_append [] gs = refl
  records_append (f ∷ fs) gs = rw (records_append fs gs) (sym (append_assoc (record_bytes mark f) (records_bytes mark fs) (records_bytes mark gs)))

  -- a file's data ends where the next record starts
  pub entry-end : (at : ℕ) (f : Stored) → (entry_of mark at f).data_start + (entry_of mark at f).data_length ≡ at + length (record_bytes mark f)
  unfolding entry_of record_bytes
  entry-end at f = rw (length-append, length-append, length-append, length-append, length-little 4 (length f.content)) (omega arith)

  some_bytes : (f : Stored) → 1 ≤ length (record_bytes mark f)
  unfolding record_bytes
  some_bytes f = rw (length-append, length-append, length-append, length-append, length-little 4 (length f.content)) (omega arith)

  -- what a record that was read says of its entry and of where it ends
  pub record Got (file : List ℕ) (at : ℕ) (r : Record) : Type 0 where
    pub stored : Stored
    pub is : record_at mark file at ≡ read stored (r.first + r.count)
    pub entered : entry r.start r.size r.first r.count ≡ entry_of mark at stored
    pub inside : r.first + r.count ≤ length file
    pub behind : r.first + r.count ≡ at + length (record_bytes mark stored)

  got_of : (file : List ℕ) (at : ℕ) {r : Record} → Small file → (x : Answer Stored) → record_at mark file at ≡ x → Ok r ≡ recorded mark at x → Got file at r
  got_of file at small (refused number place) e q = differ cc
  got_of file at {r} small (read f next) e q =
      let z : r ≡ entered (entry_of mark at f) = cc in
      let w = next_of (record_reads mark file) small at e in
      let l : length w.form ≡ length (record_bytes mark f) = ap length w.laid.1 in
      let b : r.first + r.count ≡ at + length (record_bytes mark f) = rw z (entry-end at f) in
      let n : next ≡ r.first + r.count = omega (arith, w.behind) in
      record {
        stored = f;
        is = rw n at e;
        entered = rw z;
        inside = omega (arith, w.within (omega (arith, some_bytes f)));
        behind = b;
      }

  pub got : (file : List ℕ) (at : ℕ) {r : Record} → Small file → Ok r ≡ recorded mark at (record_at mark file at) → Got file at r
  got file at small q = got_of file at small (record_at mark file at) refl q

  pub none : (at : ℕ) {e : Refusal} (x : Answer Stored) → Err e ≡ recorded mark at x → x ≡ refused e.number e.place
  none at {e} (refused n p) q = let z : e ≡ refusal n p = cc in rw z
  none at (read f next) q = differ cc

-- ---- The walk

-- the answer for the files behind those that were read
abbrev after : List Stored → Answer (List Stored) → Answer (List Stored)
after done x = bind x (λ fs e. read (done ++ fs) e)

after_none : (x : Answer (List Stored)) → after [] x ≡ x
unfolding bind
after_none (refused number place) = refl
after_none (read fs e) = refl

after_one : (done : List Stored) (f : Stored) (x : Answer (List Stored)) → after done (bind x (λ fs next. read (f ∷ fs) next)) ≡ after (done ++ f ∷ []) x
unfolding bind
after_one done f (refused number place) = refl
after_one done f (read fs e) = rw (append_assoc done (f ∷ []) fs)

module _ (mark file : List ℕ) (n room : ℕ) where
  -- so many files, one after the other
  abbrev files_at : (k at : ℕ) → Answer (List Stored)
  files_at k at = several [] ◌∷◌ (record_at mark file) k at

  -- i of the files that have room were read, and the others are next, at `at`
  pub record Walked (done : List Stored) (i at : ℕ) : Type 0 where
    pub few : i ≤ min n room
    pub count : length done ≡ i
    pub place : at ≡ 4 + length (records_bytes mark done)
    pub answer : files_at (min n room) 4 ≡ after done (files_at (min n room - i) at)

  pub start : Walked [] 0 4
  unfolding records_bytes
  start =
      let z : min n room - 0 ≡ min n room = omega arith in
      record { few = omega arith; count = refl; place = refl; answer = rw (z, after_none (files_at (min n room) 4)) }

  module _ {done : List Stored} {i at : ℕ} (r : Walked done i at) where
    -- all files that have room were read
    all : min n room ≤ i → files_at (min n room) 4 ≡ read done at
    unfolding several bind
    all h = let z : min n room - i ≡ 0 = omega arith in r.answer ∙ rw (z, append-nil done)

    pub no_room : i < n → room ≤ i → files_from mark file n room ≡ refused 31 at
    unfolding records_at bind check
    no_room h k = rw (all (omega arith), lt-leb n room (omega arith))

    pub refuse : i < n → i < room → {number place : ℕ} → record_at mark file at ≡ refused number place → files_from mark file n room ≡ refused number place
    unfolding records_at several bind
    refuse h k {number} {place} q =
        let z : min n room - i ≡ suc (min n room - (i + 1)) = omega arith in
        let e : files_at (min n room) 4 ≡ refused number place = r.answer ∙ rw (z, q) in
        rw e

    pub turn : i < n → i < room → {entry : Record} (g : Got mark file at entry) → Walked (done ++ g.stored ∷ []) (i + 1) (entry.first + entry.count)
    unfolding several bind records_bytes
    turn h k {entry} g =
        let f = g.stored in
        let z : min n room - i ≡ suc (min n room - (i + 1)) = omega arith in
        let p : length (records_bytes mark (done ++ f ∷ [])) ≡ length (records_bytes mark done) + length (record_bytes mark f)
        = rw (records_append mark done (f ∷ []), append-nil (record_bytes mark f)) (length-append (records_bytes mark done) (record_bytes mark f)) in
        record {
          few = omega arith;
          count = length-append done (f ∷ []) ∙ ap (λ (m : ℕ). m + 1) r.count;
          place = omega (arith, p, g.behind, r.place);
          answer = r.answer ∙ rw (z, g.is) (after_one done f (files_at (min n room - (i + 1)) (entry.first + entry.count)));
        }

    every : n ≤ i → records_at mark file n room 4 ≡ read done at
    unfolding records_at bind check
    every h = rw (all (omega arith), le-leb n room (omega (arith, r.few)))

    pub left_over : n ≤ i → (at ≡ length file → ⊥) → files_from mark file n room ≡ refused 20 at
    unfolding bind check
    left_over h k = rw (every h, ne_eqb at (length file) k)

    pub ended : n ≤ i → at ≡ length file → (n ≡ length done) × (files_from mark file n room ≡ read done at)
    unfolding bind check
    ended h k = (omega (arith, r.count, r.few), rw (every h, eq-eqb at (length file) k))

-- ---- The file count

module _ (mark file : List ℕ) (room : ℕ) where
  pub count-refused : {number place : ℕ} → little_at file 4 0 0 ≡ refused number place → pack_at mark file room ≡ refused number place
  unfolding pack_at pack.files_at bind
  count-refused q = rw q

  pub count_many : {n e : ℕ} → little_at file 4 0 0 ≡ read n e → 4096 < n → pack_at mark file room ≡ refused 9 0
  unfolding pack_at pack.files_at bind check
  count_many {n} q h = rw (q, lt-leb n 4096 h)

  pub count_few : {n e : ℕ} → Small file → little_at file 4 0 0 ≡ read n e → n ≤ 4096 → pack_at mark file room ≡ files_from mark file n room
  unfolding pack_at pack.files_at bind check
  count_few {n} {e} small q h =
      let l : e ≡ 4 = (little_next file small 4 0 0 (omega arith) q).0 in
      rw (q, le-leb n 4096 h, l)
