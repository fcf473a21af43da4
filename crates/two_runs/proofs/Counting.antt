-- The count of a text in its part, where two files differ behind it alone. Assumes nothing.
use mathlib.Core.Path.{◌≡◌, refl, sym, ap, ◌∙◌}
use mathlib.Core.Bool.{Bool, true, false}
use mathlib.Core.List.{List, ◌++◌}
use mathlib.Core.Logic.{◌⊎◌, inl, inr}
use Prim.Native.Nat.{ℕ, zero, suc, ◌+◌, ◌-◌, ◌<◌, ◌≤◌}
use native.Mathlib.Omega.{arith}
use lib.Dec.{eqb, ltb}
use lib.ListN.{length, get_or, take, drop}
use lib.Seq.{take-append-add, drop-append_seam}
use borrow.Author.Tests.{eqb-true, ltb-true, ltb-false}
use Rattle.layout.specs.Number.{Seven}
use Rattle.layout.specs.Rows.{Row}
use Rattle.reading.specs.Answer.{read, bind}
use Rattle.reading.specs.Reads.{Small}
use Rattle.reading.specs.Seven.{seven_at, seven_reads}
use Rattle.lookups.specs.Parts.{or_refused}
use Rattle.lookups.specs.Texts.{count_at, behind, text_in}
use Rattle.retyped.specs.Twin.{prefix_same}
use Rattle.retyped.specs.Parts.{NumbersBefore, SameCount, bytes_same}

-- something of each of the first numbers, or else the other thing
each_or : {P : ℕ → Type 0} {Q : Type 0} (k : ℕ) → ((i : ℕ) → i < k → P i ⊎ Q) → ((i : ℕ) → i < k → P i) ⊎ Q
each_or zero h = inl (λ i l. absurd (omega arith))
each_or {P} {Q} (suc k) h = go (each_or k (λ i l. h i (omega arith))) (h k (omega arith)) where
  go : ((i : ℕ) → i < k → P i) ⊎ Q → P k ⊎ Q → ((i : ℕ) → i < suc k → P i) ⊎ Q
  go (inr q) y = inr q
  go (inl s) (inr q) = inr q
  go (inl s) (inl p) = inl (λ i l. last i l (ltb i k) refl) where
    last : (i : ℕ) → i < suc k → (b : Bool) → ltb i k ≡ b → P i
    last i l true t = s i (ltb-true i k t)
    last i l false t = let z : i ≡ k = omega (arith, ltb-false i k t) in rw z p

-- two numbers at the start of a part
count_of : (file : List ℕ) (first size id n at e : ℕ) (nb mb : List ℕ) → Seven id nb → Seven n mb → drop first file ≡ nb ++ drop at file → drop at file ≡ mb ++ drop e file
    → length nb + length mb ≤ size → count_at (take size (drop first file)) ≡ read n (length nb + length mb)
unfolding count_at bind
count_of file first size id n at e nb mb x y p q l =
    let rest = take (size - (length nb + length mb)) (drop e file) in
    let z : size ≡ length nb + (length mb + (size - (length nb + length mb))) = omega arith in
    let d : drop first file ≡ nb ++ (mb ++ drop e file) = p ∙ ap (λ (s : List ℕ). nb ++ s) q in
    let part : take size (drop first file) ≡ nb ++ (mb ++ rest) = ap (take size) d ∙ ap (λ (k : ℕ). take k (nb ++ (mb ++ drop e file))) z
    ∙ take-append-add nb (mb ++ drop e file) (length mb + (size - (length nb + length mb))) ∙ ap (λ (s : List ℕ). nb ++ s) (take-append-add mb (drop e file) (size - (length nb + length mb))) in
    let o : 0 + length nb ≡ length nb = omega arith in
    let first_read : seven_at (nb ++ (mb ++ rest)) 0 ≡ read id (length nb) = (seven_reads (nb ++ (mb ++ rest))).complete id nb (mb ++ rest) 0 x refl ∙ ap (read id) o in
    rw (part, first_read) ((seven_reads (nb ++ (mb ++ rest))).complete n mb rest (length nb) y (drop-append_seam nb (mb ++ rest)))

module _ (f g : List ℕ) (small : Small f) (equal : length f ≡ length g) (r : Row) (alike : SameCount f g r) where
  abbrev part : List ℕ → List ℕ
  part file = take r.bytes (drop r.first file)

  -- the bytes of both numbers are the same
  before : (w : NumbersBefore f r (r.first + r.bytes)) (i : ℕ) → r.first ≤ i → i < w.3 → get_or f i 0 ≡ get_or g i 0
  before w i l m = go (alike i l (omega (arith, w.6))) where
    go : (get_or f i 0 ≡ get_or g i 0) ⊎ NumbersBefore f r i → get_or f i 0 ≡ get_or g i 0
    go (inl s) = s
    go (inr u) =
        let p : read w.0 w.1 ≡ read u.0 u.1 = sym w.4 ∙ u.4 in
        let a : w.1 ≡ u.1 = cc in
        let q : read w.2 w.3 ≡ read u.2 u.3 = sym w.5 ∙ ap (seven_at f) a ∙ u.5 in
        let b : w.3 ≡ u.3 = cc in
        absurd (omega (arith, u.6))

  counts : NumbersBefore f r (r.first + r.bytes) → count_at (part f) ≡ count_at (part g)
  counts w =
      let v = ((seven_reads f).sound small r.first).got w.4 in
      let u = ((seven_reads f).sound small w.1).got w.5 in
      let l : length v.0 + length u.0 ≤ r.bytes = omega (arith, v.3, u.3, w.6) in
      let p = prefix_same f g equal r.first w.1 v.0 v.2 v.3 (λ i a b. before w i a (omega (arith, u.3))) in
      let q = prefix_same f g equal w.1 w.3 u.0 u.2 u.3 (λ i a b. before w i (omega (arith, v.3)) b) in
      count_of f r.first r.bytes w.0 w.2 w.1 w.3 v.0 u.0 v.1 u.1 v.2 u.2 l
      ∙ sym (count_of g r.first r.bytes w.0 w.2 w.1 w.3 v.0 u.0 v.1 u.1 p q l)

  -- the same type id and count
  pub same_count : count_at (part f) ≡ count_at (part g)
  same_count = go (each_or r.bytes (λ i l. ended i l (alike (r.first + i) (omega arith) (omega arith)))) where
    ended : (i : ℕ) → i < r.bytes → (get_or f (r.first + i) 0 ≡ get_or g (r.first + i) 0) ⊎ NumbersBefore f r (r.first + i)
        → (get_or f (r.first + i) 0 ≡ get_or g (r.first + i) 0) ⊎ NumbersBefore f r (r.first + r.bytes)
    ended i l (inl s) = inl s
    ended i l (inr w) = inr (w.0, w.1, w.2, w.3, w.4, w.5, omega (arith, w.6))

    go : ((i : ℕ) → i < r.bytes → get_or f (r.first + i) 0 ≡ get_or g (r.first + i) 0) ⊎ NumbersBefore f r (r.first + r.bytes) → count_at (part f) ≡ count_at (part g)
    go (inl s) = ap count_at (bytes_same f g equal r.first r.bytes (λ i l m. let z : r.first + (i - r.first) ≡ i = omega arith in rw z at (s (i - r.first) (omega arith))))
    go (inr w) = counts w

-- a text lookup goes by the kind, the part's length and, for a String, type id and count
pub text_by : (a b : List ℕ) (first kind row : ℕ) → length a ≡ length b → (kind ≡ 13 → count_at a ≡ count_at b) → text_in a first kind row ≡ text_in b first kind row
unfolding text_in or_refused
text_by a b first kind row l h = go (eqb kind 13) refl where
  go : (c : Bool) → eqb kind 13 ≡ c → or_refused c 24 row (behind first (length a) row (count_at a)) ≡ or_refused c 24 row (behind first (length b) row (count_at b))
  go true e = rw (l, h (eqb-true kind 13 e))
  go false e = refl
