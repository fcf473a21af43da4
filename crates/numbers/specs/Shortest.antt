-- The shortest form of a seven-bit number (01: the rewriter changes "these numbers, each to its shortest form"). Assumes nothing.
use Rattle.std.specs.Prelude.{◌≡◌, Option, None, Some, refl, Bool, true, false, cond, List, ◌∷◌, ◌++◌, ℕ, zero, suc, ◌+◌, ◌*◌, ◌/◌, ◌%◌, ◌<◌, ◌≤◌, ◌^◌, ltb, leb, length, take, drop, set}
use Rattle.std.proofs.Common.{ap, arith, add-one, ltb-true, ltb-false, lt-ltb, le-ltb}
use Rattle.std.proofs.Math.Nat.{pow-succ'}
use Rattle.std.proofs.lemmas.List.Edits.{sets}
use Rattle.layout.specs.Number.{Groups, last, more, Seven}
use Rattle.layout.specs.Shortest.{fewest, shortest, Shortens}
use Rattle.reading.specs.Seven.{some_bytes}

groups-shortest : {k n : ℕ} {bs : List ℕ} → Groups k n bs → Shortens (Groups k n) (fewest k n) bs
unfolding fewest
groups-shortest (last {k = k} {n = n} h) = rw (lt-ltb n 128 h) (record { form = last h; no_longer = omega arith; same = λ e. refl })
groups-shortest (more {k = k} {low = low} {high = high} {bs = bs} h g) = go (groups-shortest g) (ltb (low + 128 * high) 128) refl where
  go : Shortens (Groups k high) (fewest k high) bs → (t : Bool) → ltb (low + 128 * high) 128 ≡ t
      → Shortens (Groups (suc k) (low + 128 * high)) (fewest (suc k) (low + 128 * high)) ((low + 128) ∷ bs)
  go i true q =
      let s = some_bytes g in
      rw q (record { form = last (ltb-true (low + 128 * high) 128 q); no_longer = omega arith; same = λ e. absurd (omega arith) })
  go i false q =
      let lo : (low + 128 * high) % 128 ≡ low = omega arith in
      let hi : (low + 128 * high) / 128 ≡ high = omega arith in
      let l = i.no_longer in
      rw (q, lo, hi) (record { form = more h i.form; no_longer = omega arith; same = λ e. ap (λ (x : List ℕ). (low + 128) ∷ x) (i.same (omega arith)) })

-- no form of a number is shorter than its shortest form, and one as short is the same
pub shortest_is : (n : ℕ) (bs : List ℕ) → Seven n bs → Shortens (Seven n) (shortest n) bs
unfolding shortest
shortest_is n bs w =
    let g = groups-shortest w.1 in
    record { form = (w.0, g.form); no_longer = g.no_longer; same = g.same }

-- a number of more than one group takes a second
second_group : (k n : ℕ) → n < 128 ^ suc k → 128 ≤ n → (n / 128 < 128 ^ k) × (1 ≤ k)
second_group zero n h l = absurd (omega arith)
second_group (suc k) n h l =
    let p : n < 128 * 128 ^ suc k = rw (pow-succ' 128 (suc k)) at h in
    (omega arith, omega arith)

fewest_form : (k n : ℕ) → n < 128 ^ k → 1 ≤ k → Groups k n (fewest k n)
unfolding fewest
fewest_form zero n h some = absurd (omega arith)
fewest_form (suc k) n h some = go (ltb n 128) refl (fewest_form k (n / 128)) where
  go : (t : Bool) → ltb n 128 ≡ t → (n / 128 < 128 ^ k → 1 ≤ k → Groups k (n / 128) (fewest k (n / 128))) → Groups (suc k) n (fewest (suc k) n)
  go true q next = rw q (last (ltb-true n 128 q))
  go false q next =
      let g = second_group k n h (ltb-false n 128 q) in
      let e : n % 128 + 128 * (n / 128) ≡ n = omega arith in
      let f : Groups (suc k) (n % 128 + 128 * (n / 128)) ((n % 128 + 128) ∷ fewest k (n / 128)) = more {low = n % 128} (omega arith) (next g.0 g.1) in
      rw q (rw e at f)

-- the shortest form is a form of the number
pub shortest_form : (n : ℕ) → n < 2 ^ 32 → Seven n (shortest n)
unfolding shortest
shortest_form n h = (h, fewest_form 5 n (omega arith) (omega arith))

-- a number of k + 1 groups, the last of which is not 0, has k + 1 bytes
pub fewest-length : (k m n : ℕ) → k < m → 128 ^ k ≤ n → n < 128 ^ suc k → length (fewest m n) ≡ suc k
unfolding fewest
fewest-length k zero n h l u = absurd (omega arith)
fewest-length zero (suc m) n h l u = rw (lt-ltb n 128 (omega arith))
fewest-length (suc k) (suc m) n h l u =
    let a : 128 * 128 ^ k ≤ n = rw (pow-succ' 128 k) at l in
    let b : n < 128 * 128 ^ suc k = rw (pow-succ' 128 (suc k)) at u in
    let one : 1 ≤ 128 ^ k = some_power k in
    rw (le-ltb n 128 (omega arith)) (ap suc (fewest-length k m (n / 128) (omega arith) (omega arith) (omega arith))) where
      some_power : (k : ℕ) → 1 ≤ 128 ^ k
      some_power zero = omega arith
      some_power (suc k) = let i = some_power k in rw (pow-succ' 128 k) (omega arith)

-- writing group by group: what is still to be written, after the first of several groups, and at the last
pub record Rest (out : List ℕ) (i x : ℕ) (whole : List ℕ) (end : ℕ) : Type 0 where
  pub groups : ℕ
  pub some : 1 ≤ groups
  pub enough : x < 128 ^ groups
  pub ends : i + length (fewest groups x) ≡ end
  pub writes : sets out i (fewest groups x) ≡ whole

pub rest_room : {out : List ℕ} {i x : ℕ} {whole : List ℕ} {end : ℕ} → Rest out i x whole end → i < end
rest_room {out} {i} {x} {whole} {end} r = let l = some_bytes (fewest_form r.groups x r.enough r.some) in omega (arith, r.ends)

pub rest_more : {out : List ℕ} {i x : ℕ} {whole : List ℕ} {end : ℕ} → Rest out i x whole end → 128 ≤ x → Rest (set out i (x % 128 + 128)) (i + 1) (x / 128) whole end
unfolding fewest
rest_more {out} {i} {x} {whole} {end} r l = go r.groups r.some r.enough r.ends r.writes where
  go : (k : ℕ) → 1 ≤ k → x < 128 ^ k → i + length (fewest k x) ≡ end → sets out i (fewest k x) ≡ whole → Rest (set out i (x % 128 + 128)) (i + 1) (x / 128) whole end
  go zero some enough ends writes = absurd (omega arith)
  go (suc k) some enough ends writes =
      let g = second_group k x enough l in
      let q = le-ltb x 128 l in
      record {
        groups = k;
        some = g.1;
        enough = g.0;
        ends = omega (arith, rw q at ends);
        writes = rw add-one (rw q at writes);
      }

pub rest_last : {out : List ℕ} {i x : ℕ} {whole : List ℕ} {end : ℕ} → Rest out i x whole end → x < 128 → (i + 1 ≡ end) × (set out i x ≡ whole)
unfolding fewest
rest_last {out} {i} {x} {whole} {end} r l = go r.groups r.some r.ends r.writes where
  go : (k : ℕ) → 1 ≤ k → i + length (fewest k x) ≡ end → sets out i (fewest k x) ≡ whole → (i + 1 ≡ end) × (set out i x ≡ whole)
  go zero some ends writes = absurd (omega arith)
  go (suc k) some ends writes =
      let q = lt-ltb x 128 l in
      (omega (arith, rw q at ends), rw q at writes)

-- where a number's shortest form ends, written from a place on, and what the lent bytes then hold; where it has no room, nothing is written
abbrev pub placed_at : (out : List ℕ) (at n : ℕ) → Option ℕ
placed_at out at n = cond (leb (at + length (shortest n)) (length out)) (Some (at + length (shortest n))) None

abbrev pub written_at : (out : List ℕ) (at n : ℕ) → List ℕ
written_at out at n =
    cond (leb (at + length (shortest n)) (length out)) (take at out ++ shortest n ++ drop (at + length (shortest n)) out) out
