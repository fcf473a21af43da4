-- What the tests of the lookups say. Assumes nothing.
use mathlib.Core.Path.{◌≡◌}
use mathlib.Core.List.{List}
use Prim.Native.Nat.{ℕ, ◌+◌, ◌-◌, ◌≤◌, ◌<◌}
use native.Mathlib.Omega.{arith}
use lib.ListN.{length, get_or, take, drop, length-drop}
use lib.Seq.{length-take-le}
use borrow.Author.Tests.{le-leb, lt-leb, le-ltb, lt-ltb, eq-eqb, ne_eqb}
use Rattle.reading.specs.Answer.{refused, read, bind}
use Rattle.reading.specs.Seven.{seven_at}
use Rattle.table.specs.declared.Grid.{Grid}
use Rattle.table.specs.Grids.{cell_of}
use Rattle.std.specs.Prelude.{Ok, Err}
use Rattle.answers.specs.declared.Refusal.{Refusal}
use Rattle.answers.specs.Refusals.{refusal}
use Rattle.lookups.specs.Parts.{span, or_refused, kind_of, first_of, length_of, part_of, in_part, lookup}
use Rattle.lookups.specs.Texts.{count_at, behind, text_in}
use Rattle.lookups.specs.Spans.{inside}

module _ (g : Grid) (file words : List ℕ) (row : ℕ) where
  pub no_row : g.room ≤ row → Err (refusal 23 row) ≡ part_of g file words row
  unfolding part_of or_refused
  no_row h = rw (le-ltb row g.room h)

  -- a row in the room, with its first byte and length
  module _ (h : row < g.room) {first size : ℕ} (f : first ≡ get_or words (cell_of g row 1) 0) (s : size ≡ get_or words (cell_of g row 2) 0) where
    pub empty : size ≡ 0 → Err (refusal 23 row) ≡ part_of g file words row
    unfolding part_of or_refused length_of
    empty e = rw (lt-ltb row g.room h, ← s, e)

    pub past : 0 < size → length file < first + size → Err (refusal 23 row) ≡ part_of g file words row
    unfolding part_of or_refused first_of length_of
    past z e = rw (lt-ltb row g.room h, ← f, ← s, lt-ltb 0 size z, lt-leb (first + size) (length file) e)

    pub there : 0 < size → first + size ≤ length file → Ok (span first size) ≡ part_of g file words row
    unfolding part_of or_refused first_of length_of
    there z e = rw (lt-ltb row g.room h, ← f, ← s, lt-ltb 0 size z, le-leb (first + size) (length file) e)

-- a text's count, by the type id before it
pub count-refused : (bytes : List ℕ) {n p : ℕ} → seven_at bytes 0 ≡ refused n p → refused n p ≡ count_at bytes
unfolding count_at bind
count-refused bytes e = rw e

pub count-read : (bytes : List ℕ) {v at : ℕ} → seven_at bytes 0 ≡ read v at → seven_at bytes at ≡ count_at bytes
unfolding count_at bind
count-read bytes e = rw e

module _ (bytes : List ℕ) (first kind row : ℕ) where
  pub other_kind : (kind ≡ 13 → ⊥) → Err (refusal 24 row) ≡ text_in bytes first kind row
  unfolding text_in or_refused
  other_kind h = rw (ne_eqb kind 13 h)

  pub no_count : kind ≡ 13 → {n p : ℕ} → count_at bytes ≡ refused n p → Err (refusal 24 row) ≡ text_in bytes first kind row
  unfolding text_in or_refused behind
  no_count k e = rw (eq-eqb kind 13 k, e)

  pub other_count : kind ≡ 13 → {n start : ℕ} → count_at bytes ≡ read n start → (n ≡ length bytes - start → ⊥) → Err (refusal 24 row) ≡ text_in bytes first kind row
  unfolding text_in or_refused behind
  other_count k {n} {start} e h = rw (eq-eqb kind 13 k, e, ne_eqb n (length bytes - start) h)

  pub whole-text : kind ≡ 13 → {n start : ℕ} → count_at bytes ≡ read n start → n ≡ length bytes - start → Ok (span (first + start) n) ≡ text_in bytes first kind row
  unfolding text_in or_refused behind
  whole-text k {n} {start} e h = rw (eq-eqb kind 13 k, e, eq-eqb n (length bytes - start) h)

module _ (g : Grid) (file words : List ℕ) (row : ℕ) where
  module _ {A : Type 0} (refuse : ℕ → ℕ → A) (found : (bytes : List ℕ) (first kind : ℕ) → A) where
    pub lookup-refused : {e : Refusal} → Err e ≡ part_of g file words row → refuse e.number e.place ≡ lookup refuse found g file words row
    unfolding lookup in_part
    lookup-refused e = rw (← e)

    pub lookup_found : {first size kind : ℕ} → Ok (span first size) ≡ part_of g file words row → kind ≡ get_or words (cell_of g row 0) 0
        → found (take (first + size - first) (drop first file)) first kind ≡ lookup refuse found g file words row
    unfolding lookup in_part kind_of
    lookup_found {first} {size} e k =
        let z : first + size - first ≡ size = omega arith in
        rw (← e, ← k, z)

  pub part_length : {first size : ℕ} → Ok (span first size) ≡ part_of g file words row → length (take (first + size - first) (drop first file)) ≡ size
  part_length {first} {size} e =
      let z : first + size - first ≡ size = omega arith in
      let h = inside g file words row e in
      rw z (length-take-le size (drop first file) (rw length-drop (omega arith)))
