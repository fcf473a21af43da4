-- The five steps, one after the other, read a seven-bit number and its padding. Assumes nothing.
use Rattle.std.specs.Prelude.{◌≡◌, Err, Bool, cond, List, eqb, drop}
use Rattle.std.proofs.Math.Path.{refl, ap}
use Rattle.std.proofs.Common.{sym, ◌∙◌, add-one, add_comm, mul-add, mul-suc, mul_assoc, mul_comm, mul-le-mul_left, pow-suc, pow-add, drop_of_length-le, drop-cons}
use Rattle.std.proofs.Math.Bool.{true, false}
use Prim.Native.Nat.{ℕ, zero, suc, ◌+◌, ◌*◌, ◌-◌, ◌%◌, ◌<◌, ◌≤◌, ◌^◌}
use native.Mathlib.Omega.{arith}
use Rattle.std.specs.Int.Bits.{or_shifted_r}
use Rattle.std.proofs.Math.Dec.{ltb, leb}
use Rattle.std.proofs.Math.ListN.{length, get_or}
use borrow.Author.Tests.{eqb-true, eqb-false, ltb-true, ltb-false, leb-true, leb-false, lt-ltb, le-ltb}
use Rattle.layout.specs.Shortest.{shortest, fewest}
use Rattle.reading.specs.Answer.{Answer, refused, read, bind, check}
use Rattle.reading.specs.Seven.{group as group_read, groups, seven_at}
use Rattle.answers.specs.Refusals.{refusal}
use Rattle.numbers.specs.Steps.{Stepped, ends, hands_on, joined, needed_by, group, step, last_group, last_step}
use Rattle.numbers.specs.Shortest.{fewest-length}
use Rattle.numbers.specs.Padded.{pad_of, padded}

-- the groups read so far have the value `low`; those still to come count by the weight
abbrev whole : (start low weight : ℕ) → Answer ℕ → Answer ℕ
whole start low weight r = bind r (λ n e. check (ltb (low + weight * n) (2 ^ 32)) 8 start (read (low + weight * n) e))

-- seven bits for each of k groups
weight : (k : ℕ) → 2 ^ (7 * k) ≡ 128 ^ k
weight zero = refl
weight (suc k) =
    let e : 7 * suc k ≡ 7 * k + 7 = omega arith in
    rw (e, pow-add 2 (7 * k) 7, weight k) (sym (pow-suc 128 k))

-- bits that stand above the bits read are added to them
joins : (k low b : ℕ) → low < 128 ^ k → joined low (7 * k) b ≡ low + 128 ^ k * (b % 128)
unfolding joined
joins k low b h =
    or_shifted_r (b % 128) (7 * k) low (rw (weight k) h) ∙ rw (weight k, mul_comm (b % 128) (128 ^ k)) (add_comm (128 ^ k * (b % 128)) low)

-- k groups and one more make a number below 128 to the k + 1
below : (k low b : ℕ) → low < 128 ^ k → b < 128 → low + 128 ^ k * b < 128 ^ suc k
below k low b h l = rw pow-suc (omega (arith, mul-le-mul_left (128 ^ k) l, mul-suc (128 ^ k) b))

-- the shortest form of the value so far, behind the byte with index k
needed_is : (k low needed b : ℕ) → k < 5 → low < 128 ^ k → needed ≡ length (shortest low) → needed_by k needed b ≡ length (shortest (low + 128 ^ k * (b % 128)))
unfolding needed_by shortest
needed_is k low needed b few h e = go (eqb (b % 128) 0) refl where
  go : (t : Bool) → eqb (b % 128) 0 ≡ t → cond t needed (k + 1) ≡ length (fewest 5 (low + 128 ^ k * (b % 128)))
  go true q =
      let z : low + 128 ^ k * (b % 128) ≡ low = rw (eqb-true (b % 128) 0 q) (omega arith) in
      rw z e
  go false q =
      let c : 1 ≤ b % 128 = some (b % 128) (eqb-false (b % 128) 0 q) in
      let l : 128 ^ k * 1 ≤ 128 ^ k * (b % 128) = mul-le-mul_left (128 ^ k) c in
      rw (add-one k) (sym (fewest-length k 5 (low + 128 ^ k * (b % 128)) few (omega arith) (below k low (b % 128) h (omega arith))))
    where
      some : (n : ℕ) → (n ≡ 0 → ⊥) → 1 ≤ n
      some zero z = absurd (z refl)
      some (suc n) z = omega arith

-- the bytes with index 0 to k that are not needed
unneeded : (start k n m : ℕ) → n ≡ m → k + 1 - n ≡ suc (start + k) - start - m
unneeded start k n m e = omega arith

module _ (s : List ℕ) (start : ℕ) (bytes : (i : ℕ) → i < length s → get_or s i 0 < 256) where
  -- the groups from the byte with index k on, at most m of them
  abbrev from : (m k : ℕ) → Answer ℕ
  from m k = groups m start (start + k) (drop (start + k) s)

  missing : (m k : ℕ) → length s ≤ start + k → from (suc m) k ≡ refused 1 start
  unfolding groups
  missing m k h = rw (drop_of_length-le s {i = start + k} h)

  there : (m k : ℕ) → start + k < length s → from (suc m) k ≡ group_read (ltb (get_or s (start + k) 0) 128) (get_or s (start + k) 0) (start + k) (from m (suc k))
  unfolding groups
  there m k h =
      let e : suc (start + k) ≡ start + suc k = omega arith in
      rw (drop-cons s (start + k) 0 h, e)

  -- the fifth byte, where it is there
  last_there : (low needed : ℕ) → low < 128 ^ 4 → needed ≡ length (shortest low) → (b : ℕ) → b < 256 → (t u : Bool) → leb b 0x0F ≡ t → ltb b 128 ≡ u
      → cond t (read (joined low 28 b, 5 - needed_by 4 needed b) (start + 5)) (refused 8 start) ≡ padded start (whole start low (128 ^ 4) (group_read u b (start + 4) (from 0 5)))
  unfolding bind check group_read groups pad_of
  last_there low needed h n b hb true true p q =
      let l = leb-true b 15 p in
      let r : b % 128 ≡ b = omega arith in
      let e : suc (start + 4) ≡ start + 5 = omega arith in
      let m : needed_by 4 needed b ≡ length (shortest (low + 268435456 * b)) = needed_is 4 low needed b (omega arith) h n ∙ rw r in
      let z : 5 - needed_by 4 needed b ≡ start + 5 - start - length (shortest (low + 268435456 * b)) = omega arith in
      rw (joins 4 low b h, r, lt-ltb (low + 268435456 * b) (2 ^ 32) (omega arith), e, z)
  last_there low needed h n b hb true false p q = absurd (omega (arith, leb-true b 15 p, ltb-false b 128 q))
  last_there low needed h n b hb false true p q =
      let l = leb-false b 15 p in
      rw (le-ltb (low + 268435456 * b) (2 ^ 32) (omega arith))
  last_there low needed h n b hb false false p q = refl

  last_is : (low needed : ℕ) → low < 128 ^ 4 → needed ≡ length (shortest low) → last_group s start low needed ≡ padded start (whole start low (128 ^ 4) (from 1 4))
  unfolding last_group bind
  last_is low needed h n = go (leb (length s) (start + 4)) refl where
    go : (t : Bool) → leb (length s) (start + 4) ≡ t → last_group s start low needed ≡ padded start (whole start low (128 ^ 4) (from 1 4))
    go true q = rw (q, missing 0 4 (leb-true (length s) (start + 4) q))
    go false q =
        let h₄ : start + 4 < length s = leb-false (length s) (start + 4) q in
        let b = get_or s (start + 4) 0 in
        rw (q, there 0 4 h₄) (last_there low needed h n b (bytes (start + 4) h₄) (leb b 15) (ltb b 128) refl refl)

  -- the bits of a group and those of the groups after it
  weighed : (w low c n : ℕ) → low + w * c + w * 128 * n ≡ low + w * (c + 128 * n)
  weighed w low c n = rw (mul-add, mul_assoc) (omega arith)

  handed : (k low c : ℕ) (r : Answer ℕ) → whole start (low + 128 ^ k * c) (128 ^ suc k) r ≡ whole start low (128 ^ k) (bind r (λ n e. read (c + 128 * n) e))
  unfolding bind
  handed k low c (refused n p) = refl
  handed k low c (read n e) =
      let q : low + 128 ^ k * c + 128 ^ suc k * n ≡ low + 128 ^ k * (c + 128 * n) = rw (pow-suc) (weighed (128 ^ k) low c n) in
      rw q

  -- one of the first four groups, by what the steps after it do
  group_is : (m k : ℕ) → k < 5 → 128 ^ suc k ≤ 2 ^ 28 → (after : Stepped → Answer (ℕ × ℕ))
      → ((v n p : ℕ) → after (ends v n p) ≡ read (v, p) n) → ((n p : ℕ) → after (Err (refusal n p)) ≡ refused n p)
      → ((low needed : ℕ) → low < 128 ^ suc k → needed ≡ length (shortest low) → after (hands_on low needed) ≡ padded start (whole start low (128 ^ suc k) (from m (suc k))))
      → (low needed : ℕ) → low < 128 ^ k → needed ≡ length (shortest low) → after (group k s start low needed) ≡ padded start (whole start low (128 ^ k) (from (suc m) k))
  unfolding group bind check group_read pad_of
  group_is m k five few after ends refuses hands low needed h n = go (leb (length s) (start + k)) (ltb (get_or s (start + k) 0) 128) refl refl where
    go : (t u : Bool) → leb (length s) (start + k) ≡ t → ltb (get_or s (start + k) 0) 128 ≡ u → after (group k s start low needed) ≡ padded start (whole start low (128 ^ k) (from (suc m) k))
    go true u p q = rw (p, missing m k (leb-true (length s) (start + k) p), refuses 1 start)
    go false true p q =
        let b = get_or s (start + k) 0 in
        let r : b % 128 ≡ b = omega (arith, ltb-true b 128 q) in
        let l : low + 128 ^ k * b < 2 ^ 32 = omega (arith, below k low b h (ltb-true b 128 q)) in
        let e : suc (start + k) ≡ start + k + 1 = omega arith in
        let z = unneeded start k (needed_by k needed b) (length (shortest (low + 128 ^ k * b))) (needed_is k low needed b five h n ∙ rw r) in
        rw (p, q, joins k low b h, r, there m k (leb-false (length s) (start + k) p), q, ends, lt-ltb (low + 128 ^ k * b) (2 ^ 32) l, z, e)
    go false false p q =
        let b = get_or s (start + k) 0 in
        let hk = leb-false (length s) (start + k) p in
        let l : b - 128 < 128 = omega (arith, bytes (start + k) hk) in
        let r : b % 128 ≡ b - 128 = omega (arith, bytes (start + k) hk, ltb-false b 128 q) in
        let z : needed_by k needed b ≡ length (shortest (low + 128 ^ k * (b - 128))) = needed_is k low needed b five h n ∙ rw r in
        rw (p, q, joins k low b h, r, there m k hk, q, hands (low + 128 ^ k * (b - 128)) (needed_by k needed b) (below k low (b - 128) h l) z) (ap (padded start) (handed k low (b - 128) (from m (suc k))))

  -- the steps after those with index 0, 1 and 2
  abbrev after₂ : Stepped → Answer (ℕ × ℕ)
  after₂ so_far = last_step s start (step 3 s start so_far)

  abbrev after₁ : Stepped → Answer (ℕ × ℕ)
  after₁ so_far = after₂ (step 2 s start so_far)

  abbrev after₀ : Stepped → Answer (ℕ × ℕ)
  after₀ so_far = after₁ (step 1 s start so_far)

  alone : (r : Answer ℕ) → whole start 0 1 r ≡ bind r (λ n e. check (ltb n (2 ^ 32)) 8 start (read n e))
  unfolding bind
  alone (refused n p) = refl
  alone (read n e) = let q : 0 + 1 * n ≡ n = omega arith in rw q

  pub five_steps : after₀ (step 0 s start (hands_on 0 1)) ≡ padded start (seven_at s start)
  unfolding seven_at shortest fewest
  five_steps =
      let from₃ = group_is 1 3 (omega arith) (omega arith) (last_step s start) (λ v n p. refl) (λ n p. refl) last_is in
      let from₂ = group_is 2 2 (omega arith) (omega arith) after₂ (λ v n p. refl) (λ n p. refl) from₃ in
      let from₁ = group_is 3 1 (omega arith) (omega arith) after₁ (λ v n p. refl) (λ n p. refl) from₂ in
      let from₀ = group_is 4 0 (omega arith) (omega arith) after₀ (λ v n p. refl) (λ n p. refl) from₁ 0 1 (omega arith) refl in
      let z : start + 0 ≡ start = omega arith in
      from₀ ∙ ap (padded start) (alone (from 5 0)) ∙ rw z

  -- the other steps leave what the first one ended or refused
  pub after_first : (o : Stepped) → o ≡ step 0 s start (hands_on 0 1) → after₀ o ≡ padded start (seven_at s start)
  after_first o e = ap after₀ e ∙ five_steps
