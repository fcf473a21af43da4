-- Reading a seven-bit number, and its two laws. Assumes nothing.
use Rattle.std.specs.Prelude.{◌≡◌, refl, Bool, true, false, List, [], ◌∷◌, ◌++◌, ℕ, zero, suc, ◌+◌, ◌*◌, ◌-◌, ◌<◌, ◌≤◌, ◌^◌, ltb, length, drop}
use Rattle.std.proofs.Common.{sym, ap, ◌∙◌, arith, drop-drop, ltb-true, ltb-false, lt-ltb, le-ltb}
use Rattle.std.proofs.Math.Seq.{drop-append_seam}
use Rattle.layout.specs.Number.{Groups, last, more, Seven}
use Rattle.reading.specs.Answer.{Answer, refused, read, bind, check, Ok, not_read, is_read, ok_bind, ok_check}
use Rattle.reading.specs.Reads.{Small, small-drop, Reads, reads_unique, next_of}

-- a group: the last one, or low bits of what the rest gives
unfoldable pub group : Bool → (b at : ℕ) → Answer ℕ → Answer ℕ
group true b at rest = read b (suc at)
group false b at rest = bind rest (λ n e. read (b - 128 + 128 * n) e)

-- groups of seven bits, at most k; `start` is where the number starts and `at` the place of the list's first byte
unfoldable pub groups : (k start at : ℕ) → List ℕ → Answer ℕ
groups zero start at l = refused 8 start
groups (suc k) start at [] = refused 1 start
groups (suc k) start at (b ∷ l) = group (ltb b 128) b at (groups k start (suc at) l)

unfoldable pub seven_at : List ℕ → ℕ → Answer ℕ
seven_at file at = bind (groups 5 at at (drop at file)) (λ n e. check (ltb n (2 ^ 32)) 8 at (read n e))

groups-complete : {k n : ℕ} {bs : List ℕ} → Groups k n bs → (start at : ℕ) (rest : List ℕ) → groups k start at (bs ++ rest) ≡ read n (at + length bs)
unfolding groups group bind
groups-complete (last {n = n} h) start at rest =
    let l : at + 1 ≡ suc at = omega arith in
    rw (lt-ltb n 128 h, l)
groups-complete (more {k = k} {low = low} {high = high} {bs = bs} h g) start at rest =
    let t : ltb (low + 128) 128 ≡ false = le-ltb (low + 128) 128 (omega arith) in
    let m : low + 128 - 128 ≡ low = omega arith in
    let l : suc at + length bs ≡ at + suc (length bs) = omega arith in
    rw (t, groups-complete g start (suc at) rest, m, l)

abbrev Grouped : ℕ → ℕ → List ℕ → ℕ → ℕ → Type 0
Grouped k at l n e = (bs : List ℕ) × (rest : List ℕ) × Groups k n bs × (l ≡ bs ++ rest) × (e ≡ at + length bs)

group-sound : (k at b : ℕ) (l : List ℕ) (r : Answer ℕ) → b < 256 → Ok (Grouped k (suc at) l) r → (t : Bool) → ltb b 128 ≡ t → Ok (Grouped (suc k) at (b ∷ l)) (group t b at r)
unfolding group
group-sound k at b l r h g true q = let y : suc at ≡ at + 1 = omega arith in is_read (b ∷ [], l, last (ltb-true b 128 q), refl, y)
group-sound k at b l r h g false q =
    ok_bind g
    (λ n e v. let low : b - 128 < 128 = omega arith in
    let s : b - 128 + 128 ≡ b = omega (arith, ltb-false b 128 q) in
    let z : b ∷ l ≡ (b - 128 + 128) ∷ (v.0 ++ v.1) = rw (s, ← v.3) in
    let y : e ≡ at + suc (length v.0) = omega arith in
    is_read ((b - 128 + 128) ∷ v.0, v.1, more low v.2, z, y))

groups-sound : (k start at : ℕ) (l : List ℕ) → Small l → Ok (Grouped k at l) (groups k start at l)
unfolding groups Small
groups-sound zero start at l h = not_read
groups-sound (suc k) start at [] h = not_read
groups-sound (suc k) start at (b ∷ l) h = group-sound k at b l (groups k start (suc at) l) h.0 (groups-sound k start (suc at) l h.1) (ltb b 128) refl

pub seven_reads : (file : List ℕ) → Reads file Seven (seven_at file)
unfolding seven_at bind check
seven_reads file = record {
  complete = λ n bs rest at w q. rw (q, groups-complete w.1 at at rest, lt-ltb n (2 ^ 32) w.0);
  sound = λ h at. ok_bind (groups-sound 5 at at (drop at file) (small-drop at file h)) (λ n e v. ok_check (ltb n (2 ^ 32)) 8 at _ (λ t.
      let q : drop at file ≡ v.0 ++ drop e file
      = v.3 ∙ ap (λ (l : List ℕ). v.0 ++ l) (sym (rest_is v.0 v.1 at v.3) ∙ ap (λ (k : ℕ). drop k file) (sym v.4)) in
      is_read (v.0, (ltb-true n (2 ^ 32) t, v.2), q, v.4)));
} where
  rest_is : (b r : List ℕ) (at : ℕ) → drop at file ≡ b ++ r → drop (at + length b) file ≡ r
  rest_is b r at e = sym (drop-drop (length b) at file) ∙ ap (drop (length b)) e ∙ drop-append_seam b r

pub some_bytes : {k n : ℕ} {bs : List ℕ} → Groups k n bs → 1 ≤ length bs
some_bytes (last h) = omega arith
some_bytes (more h g) = omega arith

-- two forms of which one begins the other are equal
pub seven-unique : {n m : ℕ} {bs cs : List ℕ} (rest others : List ℕ) → Seven n bs → Seven m cs → bs ++ rest ≡ cs ++ others → (n ≡ m) × (bs ≡ cs)
seven-unique rest others f g e = reads_unique seven_at seven_reads rest others f g e

-- a number that was read has its bytes in the file, and is below 2 to the 32
pub seven_next : (file : List ℕ) → Small file → (at : ℕ) {v e : ℕ} → seven_at file at ≡ read v e → (at < e) × (e ≤ length file) × (v < 2 ^ 32)
seven_next file s at q =
    let n = next_of (seven_reads file) s at q in
    let some : 1 ≤ length n.form = some_bytes n.laid.1 in
    let b = n.behind in
    (omega arith, n.within some, n.laid.0)
