-- Searches over what is left of a list, told of the whole list. Assumes nothing.
use Rattle.std.specs.Prelude.{◌≡◌, List, ℕ, ◌+◌, ◌-◌, ◌≤◌, ◌<◌, length, take, drop, get_or}
use Rattle.std.specs.Array.{IsFirstChunk}
use Rattle.std.proofs.Common.{subst, ◌∙◌, arith, length-drop, get_or-drop, length-take-le}
use Rattle.std.proofs.lemmas.List.{get_or-take, take-take}
use Rattle.xml_escape.specs.Runs.{AllOf, First, Passed}

-- n bytes from i on
module _ (s : List ℕ) (i n : ℕ) where
  byte_of : (P : ℕ → Type 0) (k : ℕ) → k < n → P (get_or (take n (drop i s)) (0 + k) 0) → P (get_or s (i + k) 0)
  byte_of P k h q =
      let z : 0 + k ≡ k = omega arith in
      subst P (get_or-take n (drop i s) k 0 h ∙ get_or-drop i s k 0) (rw z at q)

  all_of : (P : ℕ → Type 0) (m : ℕ) → m ≤ n → AllOf P (take n (drop i s)) 0 m → AllOf P s i m
  all_of P m h q k l = byte_of P k (omega arith) (q k l)

  pub first_of : {P Q : ℕ → Type 0} {m r : ℕ} → m ≤ n → First P Q (take n (drop i s)) 0 m r → First P Q s i m r
  first_of {P} {Q} {m} {r} h b = record {
    within = b.within;
    before = all_of P r (omega (arith, b.within)) b.before;
    there = λ l. byte_of Q r (omega arith) (b.there l);
  }

-- what is left from i on
abbrev left : List ℕ → ℕ → List ℕ
left s i = take (length s - i) (drop i s)

left-long : (s : List ℕ) (i : ℕ) → length (left s i) ≡ length s - i
left-long s i = length-take-le (length s - i) (drop i s) (omega (arith, length-drop i s))

pub block_fits : (s : List ℕ) (i : ℕ) → i ≤ length s → {block : List ℕ} {n : ℕ} → IsFirstChunk (left s i) block n → i + n ≤ length s
block_fits s i h c = omega (arith, c.enough, left-long s i)

pub block_is : (s : List ℕ) (i : ℕ) → i ≤ length s → {block : List ℕ} {n : ℕ} → IsFirstChunk (left s i) block n → block ≡ take n (drop i s)
block_is s i h {n = n} c = c.same ∙ take-take n (length s - i) (drop i s) (omega (arith, c.enough, left-long s i))

module _ {P : ℕ → Type 0} (s : List ℕ) (i : ℕ) (h : i ≤ length s) where
  pub passed_cut : {to : ℕ} → Passed P (left s i) 0 to → Passed P s i (i + to)
  passed_cut {to} p =
      let z : to - 0 ≡ to = omega arith in
      let y : i + to - i ≡ to = omega arith in
      let l : to ≤ length s - i = omega (arith, p.inside, left-long s i) in
      record { forward = omega arith; inside = omega arith; all = rw y (all_of s i (length s - i) P to l (rw z at p.all)) }

  pub first_cut : {Q : ℕ → Type 0} {r : ℕ} → First P Q (left s i) 0 (length (left s i)) r → First P Q s i (length s - i) r
  first_cut b = first_of s i (length s - i) (omega arith) (rw (left-long s i) at b)

  -- the first n of them
  pub block_cut : {Q : ℕ → Type 0} {block : List ℕ} {n m r : ℕ} → IsFirstChunk (left s i) block n → m ≡ n → First P Q block 0 m r → First P Q s i n r
  block_cut {Q} {block} {n} {m} {r} c e b =
      let d : First P Q (take n (drop 0 (left s i))) 0 n r = rw (← c.same, ← e) b in
      first_of s i (length s - i) (omega (arith, c.enough, left-long s i)) (first_of (left s i) 0 n (omega arith) d)
