-- A file with the seven-bit numbers at some places in their shortest forms, and how many bytes that saves. Assumes nothing.
use Rattle.std.specs.Prelude.{◌≡◌, ℕ, ◌+◌, ◌-◌, ◌<◌, ◌≤◌, ◌^◌, take, drop}
use Rattle.std.proofs.Common.{sym, ap, ◌∙◌, arith, drop-drop, take-add, take_all, length-take-le}
use mathlib.Core.List.{List, [], ◌∷◌, ◌++◌, append_assoc, append-nil}
use Rattle.std.proofs.Math.ListN.{length, length-append, length-drop}
use Rattle.std.proofs.Math.Seq.{take-append_seam}
use Rattle.layout.specs.Shortest.{shortest}
use Rattle.reading.specs.Answer.{read}
use Rattle.reading.specs.Reads.{Small}
use Rattle.reading.specs.Seven.{seven_at, seven_reads, some_bytes}
use Rattle.numbers.specs.Shortest.{shortest_is}
use Rattle.numbers.specs.Padded.{pad_of}
use Rattle.places.specs.Padding.{padding}
use Rattle.shortest.specs.Places.{Shortened, copied, number, joined, number_is}

module _ (file : List ℕ) where
  -- the file's bytes from `from` up to `at`
  abbrev pub part : (from at : ℕ) → List ℕ
  part from at = take (at - from) (drop from file)

  -- `out` is the file from `from` on, with the numbers at these places in their shortest forms
  pub data Rewrites : (from : ℕ) (places out : List ℕ) → Type 0 where
    rest : {from : ℕ} → from ≤ length file → Rewrites from [] (drop from file)
    anew : {from at n next : ℕ} {places out : List ℕ} → from ≤ at → seven_at file at ≡ read n next → at + length (shortest n) ≤ next → next ≤ length file → n < 2 ^ 32
        → Rewrites next places out → Rewrites from (at ∷ places) (part from at ++ (shortest n ++ out))

  part_self : (at : ℕ) → part at at ≡ []
  part_self at = let z : at - at ≡ 0 = omega arith in rw z

  part_is : (at end : ℕ) (bs others : List ℕ) → drop at file ≡ bs ++ others → end ≡ at + length bs → part at end ≡ bs
  part_is at end bs others e q = let z : end - at ≡ length bs = omega arith in rw (z, e, take-append_seam)

  part_join : (from at end : ℕ) → from ≤ at → at ≤ end → part from end ≡ part from at ++ part at end
  part_join from at end h k =
      let z : end - from ≡ (at - from) + (end - at) = omega arith in
      let y : from + (at - from) ≡ at = omega arith in
      rw (z, take-add (at - from) (end - at) (drop from file), drop-drop (at - from) from file, y)

  -- bytes that stand in the file end inside it
  ends-inside : (at : ℕ) (bs others : List ℕ) → drop at file ≡ bs ++ others → 1 ≤ length bs → at + length bs ≤ length file
  ends-inside at bs others d h = omega (arith, ap length d, length-append bs others, length-drop at file)

  -- what stands up to `end` is rewritten before what stands behind it
  pub shortened_rewrites : {at end : ℕ} {p s : List ℕ} → Shortened file at end p s → (q t : List ℕ) → ((from : ℕ) → from ≤ end → Rewrites from q (part from end ++ t))
      → (from : ℕ) → from ≤ at → Rewrites from (p ++ q) (part from at ++ (s ++ t))
  shortened_rewrites {at} {end} (copied {bs = bs} others d e) q t k from h =
      let j : part from end ≡ part from at ++ bs = part_join from at end h (omega arith) ∙ ap (λ (b : List ℕ). part from at ++ b) (part_is at end bs others d e) in
      rw (← append_assoc (part from at) bs t, ← j) (k from (omega arith))
  shortened_rewrites {at} {end} (number {n = n} bs others d e w) q t k from h =
      let g = shortest_is n bs w in
      let r : Rewrites end q t = rw (part_self end) at (k end (omega arith)) in
      anew h (number_is file n at bs others w d ∙ ap (read n) (sym e)) (omega (arith, g.no_longer)) (rw e (ends-inside at bs others d (some_bytes w.1))) w.0 r
  shortened_rewrites {at} {end} (joined {mid = mid} {p = p} {q = p'} {s = s} {t = s'} x y) q t k from h =
      rw (append_assoc p p' q, append_assoc s s' t) (shortened_rewrites x (p' ++ q) (s' ++ t) (λ f l. shortened_rewrites y q t k f l) from h)

  -- at the file's end nothing is left
  pub whole-rewrites : {at : ℕ} {p s : List ℕ} → Shortened file at (length file) p s → (from : ℕ) → from ≤ at → Rewrites from p (part from at ++ s)
  whole-rewrites {at} {p} {s} x from h =
      rw (append-nil p, append-nil s) at (shortened_rewrites x [] [] (λ f l.
      let a : length (drop f file) ≤ length file - f = omega (arith, length-drop f file) in
      let z : drop f file ≡ part f (length file) ++ [] = sym (append-nil (part f (length file)) ∙ take_all (length file - f) (drop f file) a) in
      rw (← z) (rest l)) from h)

  length_part : (from at : ℕ) → from ≤ at → at ≤ length file → length (part from at) ≡ at - from
  length_part from at h k = length-take-le (at - from) (drop from file) (omega (arith, length-drop from file))

  -- what is saved is the padding
  pub rewrites-padding : {from : ℕ} {places out : List ℕ} → Rewrites from places out → length file ≡ from + length out + padding file places
  unfolding padding pad_of
  rewrites-padding {from} (rest h) = omega (arith, length-drop from file)
  rewrites-padding {from} (anew {at = at} {n = n} {next = next} {out = out} h s l m b r) =
      rw s (omega (arith, rewrites-padding r, length-append (part from at) (shortest n ++ out), length-append (shortest n) out, length_part from at h (omega arith)))

  -- ---- Numbers that have no padding

  -- what stands before is copied too
  extended : {from next : ℕ} {places out : List ℕ} → from ≤ next → Rewrites next places out → Rewrites from places (part from next ++ out)
  extended {from} {next} h (rest k) =
      let n : length (drop from file) ≤ length file - from = omega (arith, length-drop from file) in
      let a : part from next ++ drop next file ≡ drop from file
      = ap (λ (b : List ℕ). part from next ++ b) (sym (take_all (length file - next) (drop next file) (omega (arith, length-drop next file)))) ∙ sym (part_join from next (length file) h k) ∙ take_all (length file - from) (drop from file) n in
      rw a (rest {from = from} (omega arith))
  extended {from} {next} h (anew {at = at} {n = n} {out = out} k s l m b r) =
      rw (← append_assoc (part from next) (part next at) (shortest n ++ out), ← part_join from next at h k) (anew {from = from} {at = at} (omega arith) s l m b r)

  -- a number without padding stands in its shortest form, and is copied with what stands around it
  pub unpadded : Small file → {from at : ℕ} {places out : List ℕ} → pad_of (seven_at file at) at ≡ 0 → Rewrites from (at ∷ places) out → Rewrites from places out
  unfolding pad_of
  unpadded small {from} {at} z (anew {n = n} {next = next} {out = out} h s l m b r) =
      let v = ((seven_reads file).sound small at).got s in
      let none : next - at - length (shortest n) ≡ 0 = rw s at z in
      let same : shortest n ≡ v.0 = (shortest_is n v.0 v.1).same (omega (arith, v.3)) in
      let there : part at next ≡ v.0 = part_is at next v.0 (drop next file) v.2 v.3 in
      rw (same, ← there, ← append_assoc (part from at) (part at next) out, ← part_join from at next h (omega arith)) (extended (omega arith) r)

  -- where no number has padding, all is copied
  pub none-padded : Small file → {from : ℕ} (places : List ℕ) {out : List ℕ} → padding file places ≡ 0 → Rewrites from places out → Rewrites from [] out
  unfolding padding
  none-padded small [] z r = r
  none-padded small (at ∷ places) z r = none-padded small places (omega arith) (unpadded small (omega arith) r)
