-- A part and a text that are found lie in the file. Assumes nothing.
use Rattle.std.specs.Prelude.{◌≡◌, Bool, List, ℕ, ◌+◌, ◌-◌, ◌^◌, ◌≤◌, ◌<◌, ltb, take, drop, Result, Ok, Err}
use Rattle.std.proofs.Math.Path.{refl}
use Rattle.std.proofs.Math.Bool.{true, false}
use Rattle.std.proofs.Common.{ap, arith}
use Rattle.std.proofs.Math.Dec.{eqb, leb}
use Rattle.std.proofs.Math.ListN.{length, length-drop, take-append-drop}
use Rattle.std.proofs.Math.Seq.{length-take-le}
use borrow.Author.Tests.{eqb-true, leb-true}
use Rattle.laws.specs.Small.{differ}
use Rattle.reading.specs.Answer.{Answer, refused, read, bind}
use Rattle.reading.specs.Reads.{Small, small-drop, small_left}
use Rattle.reading.specs.Seven.{seven_at, seven_next}
use Rattle.table.specs.declared.Grid.{Grid}
use Rattle.lookups.specs.declared.Span.{Span}
use Rattle.answers.specs.declared.Refusal.{Refusal}
use Rattle.lookups.specs.Parts.{span, refuses, or_refused, kind_of, first_of, length_of, part_of, in_part, lookup}
use Rattle.lookups.specs.Texts.{count_at, behind, text_in, text_of}

module _ (g : Grid) (file words : List ℕ) (row : ℕ) where
  -- a part that was found lies in the file
  pub inside : {first size : ℕ} → Ok (span first size) ≡ part_of g file words row → first + size ≤ length file
  unfolding part_of or_refused
  inside {first} {size} = go (ltb row g.room) (ltb 0 (length_of g words row)) (leb (first_of g words row + length_of g words row) (length file)) refl where
    go : (a b d : Bool) → leb (first_of g words row + length_of g words row) (length file) ≡ d
        → Ok (span first size) ≡ or_refused a 23 row (or_refused b 23 row (or_refused d 23 row (Ok (span (first_of g words row) (length_of g words row))))) → first + size ≤ length file
    go false b d q e = differ cc
    go true false d q e = differ cc
    go true true false q e = differ cc
    go true true true q e =
        let z : span first size ≡ span (first_of g words row) (length_of g words row) = cc in
        let f : first ≡ first_of g words row = ap (λ (s : Span). s.first) z in
        let s : size ≡ length_of g words row = ap (λ (s : Span). s.length) z in
        omega (arith, leb-true (first_of g words row + length_of g words row) (length file) q)

-- a text's count ends in the part
pub count_next : (bytes : List ℕ) → Small bytes → {n start : ℕ} → count_at bytes ≡ read n start → (start ≤ length bytes) × (n < 2 ^ 32)
unfolding count_at bind
count_next bytes s {n} {start} = go (seven_at bytes 0) where
  go : (x : Answer ℕ) → bind x (λ id at. seven_at bytes at) ≡ read n start → (start ≤ length bytes) × (n < 2 ^ 32)
  go (refused m p) e = differ cc
  go (read v at) e =
      let h = seven_next bytes s at e in
      (h.1, h.2)

module _ (bytes : List ℕ) (small : Small bytes) (first kind row : ℕ) {f z : ℕ} where
  -- a text ends where its part ends
  text_in_part : Ok (span f z) ≡ text_in bytes first kind row → f + z ≤ first + length bytes
  unfolding text_in or_refused behind
  text_in_part = go (eqb kind 13) (count_at bytes) refl where
    counted : (n start : ℕ) → start ≤ length bytes → (d : Bool) → eqb n (length bytes - start) ≡ d → Ok (span f z) ≡ or_refused d 24 row (Ok (span (first + start) n)) → f + z ≤ first + length bytes
    counted n start h false q e = differ cc
    counted n start h true q e =
        let y : span f z ≡ span (first + start) n = cc in
        let a : f ≡ first + start = ap (λ (s : Span). s.first) y in
        let b : z ≡ n = ap (λ (s : Span). s.length) y in
        omega (arith, eqb-true n (length bytes - start) q)

    go : (b : Bool) (x : Answer ℕ) → count_at bytes ≡ x → Ok (span f z) ≡ or_refused b 24 row (behind first (length bytes) row x) → f + z ≤ first + length bytes
    go false x q e = differ cc
    go true (refused n p) q e = differ cc
    go true (read n start) q e = counted n start (count_next bytes small q).0 (eqb n (length bytes - start)) refl e

module _ (g : Grid) (file words : List ℕ) (row : ℕ) where
  -- a text that was found lies in the file
  pub text-inside : Small file → {f z : ℕ} → Ok (span f z) ≡ text_of g file words row → f + z ≤ length file
  unfolding text_of lookup in_part
  text-inside small {f} {z} = go (part_of g file words row) refl where
    go : (p : Result Span Refusal) → p ≡ part_of g file words row → Ok (span f z) ≡ in_part refuses p (λ first size. text_in (take size (drop first file)) first (kind_of g words row) row) → f + z ≤ length file
    go (Err r) q e = differ cc
    go (Ok s) q e =
        let h = inside g file words row q in
        let l : length (take s.length (drop s.first file)) ≡ s.length = length-take-le s.length (drop s.first file) (rw length-drop (omega arith)) in
        let k : Small (take s.length (drop s.first file)) = small_left (take s.length (drop s.first file)) (drop s.length (drop s.first file)) (rw take-append-drop (small-drop s.first file small)) in
        let t = text_in_part (take s.length (drop s.first file)) k s.first (kind_of g words row) row e in
        omega (arith, h, l, t)
