-- A record whose path's length is one byte, by the size of its data. Assumes nothing.
use Rattle.std.specs.Prelude.{◌≡◌, Bool, true, false, List, ℕ, ◌+◌, ◌-◌, ◌<◌, ◌≤◌, ◌^◌, leb, take, drop, Ok}
use native.Mathlib.Omega.{arith}
use Rattle.std.proofs.Math.Numerals.{add-one}
use Rattle.std.proofs.Math.ListN.{length, get_or, length-drop}
use Rattle.std.proofs.Common.{drop-cons}
use Rattle.std.proofs.Math.Seq.{length-take-le}
use borrow.Author.Tests.{leb-true, le-leb, lt-ltb}
use Rattle.reading.specs.Answer.{read, bind, check, true-within}
use Rattle.reading.specs.Reads.{Small, some}
use Rattle.reading.specs.Seven.{group, groups, seven_at}
use Rattle.reading.specs.Little.{little_at, little_next}
use Rattle.reading.specs.Utf8.{utf8s}
use Rattle.reading.specs.Same.{same, with_bytes}
use Rattle.pack_layout.specs.Pack.{plain, mark_of}
use Rattle.pack_layout.specs.Table.{entry_of}
use Rattle.pack_reading.specs.Pack.{mark_at, path_at, content_at, record_at}
use Rattle.pack_records.specs.declared.Record.{Record}
use Rattle.pack_records.specs.Records.{stands, recorded}

-- the bytes from one place to another are a path of up to 127 bytes
pub record ShortPath (file : List ℕ) (start behind : ℕ) : Type 0 where
  pub some_bytes : 1 ≤ behind - start
  pub few : behind - start ≤ 127
  pub text : utf8s (take (behind - start) (drop start file)) ≡ true

-- the record at a place is read so
abbrev pub Short : (marked : Bool) (file : List ℕ) (at : ℕ) → Record → Type 0
Short marked file at r = Ok r ≡ recorded (mark_of marked) at (record_at (mark_of marked) file at)

module _ (file : List ℕ) (at : ℕ) (h : at < length file) (l : get_or file at 0 < 128) where
  seven_short : seven_at file at ≡ read (get_or file at 0) (at + 1)
  unfolding seven_at groups group bind check
  seven_short = rw (drop-cons file at 0 h, lt-ltb (get_or file at 0) 128 l, lt-ltb (get_or file at 0) (2 ^ 32) (omega arith), add-one at)

  module _ (some_bytes : 1 ≤ get_or file at 0) (there : at + 1 + get_or file at 0 ≤ length file) (text : utf8s (take (get_or file at 0) (drop (at + 1) file)) ≡ true) where
    path_short : path_at file at ≡ read (take 1 (drop at file), take (get_or file at 0) (drop (at + 1) file)) (at + 1 + get_or file at 0)
    unfolding path_at with_bytes bind check some
    path_short =
        let e : at + 1 - at ≡ 1 = omega arith in
        rw (seven_short, true-within 260 (get_or file at 0) some_bytes (omega arith), le-leb (get_or file at 0) (length (drop (at + 1) file)) (omega (arith, length-drop (at + 1) file)), text, e)

    module _ {count first : ℕ} (q : little_at file 4 (at + 1 + get_or file at 0) (at + 1 + get_or file at 0) ≡ read count first)
        (t : leb count (length (drop first file)) ≡ true) where
      content_short : content_at file (at + 1 + get_or file at 0) ≡ read (take count (drop first file)) (first + count)
      unfolding content_at bind check some
      content_short = rw (q, t)

      record_short : record_at plain file at ≡ read (record { number = take 1 (drop at file); path = take (get_or file at 0) (drop (at + 1) file); content = take count (drop first file) }) (first + count)
      unfolding record_at mark_at same bind check some
      record_short =
          let z : at + 0 ≡ at = omega arith in
          rw (le-leb 0 (length (drop at file)) (omega arith), z, path_short, content_short)

      read_short : Ok (stands (at + 1) (get_or file at 0) (at + 1 + get_or file at 0 + 4) count) ≡ recorded plain at (record_at plain file at)
      unfolding entry_of
      read_short =
          let a : length (take 1 (drop at file)) ≡ 1 = length-take-le 1 (drop at file) (omega (arith, length-drop at file)) in
          let b : length (take (get_or file at 0) (drop (at + 1) file)) ≡ get_or file at 0 = length-take-le (get_or file at 0) (drop (at + 1) file) (omega (arith, length-drop (at + 1) file)) in
          let c : length (take count (drop first file)) ≡ count = length-take-le count (drop first file) (leb-true count (length (drop first file)) t) in
          let z : at + 0 ≡ at = omega arith in
          rw (record_short, a, b, c, z)

-- what the tests of a record say of it
pub short_there : {marked : Bool} (file : List ℕ) (at : ℕ) {count first : ℕ} → Small file → marked ≡ false → at < length file → get_or file at 0 < length file - at
    → ShortPath file (at + 1) (at + 1 + get_or file at 0)
    → little_at file 4 (at + 1 + get_or file at 0) (at + 1 + get_or file at 0) ≡ read count first → leb count (length (drop first file)) ≡ true → Short marked file at (stands (at + 1) (get_or file at 0) first count)
short_there file at {count} {first} small m h r p q t =
    let w = little_next file small 4 (at + 1 + get_or file at 0) (at + 1 + get_or file at 0) (omega arith) q in
    let e : at + 1 + get_or file at 0 - (at + 1) ≡ get_or file at 0 = omega arith in
    let v : utf8s (take (get_or file at 0) (drop (at + 1) file)) ≡ true = rw e at p.text in
    rw (m, w.0) (read_short file at h (omega (arith, p.few)) (omega (arith, p.some_bytes)) (omega arith) v q t)
