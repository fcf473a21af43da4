-- A name is read by the bytes up to the place where it ends or is faulty, and the next one: whatever follows, and however many more levels there may be. Assumes nothing.
use Rattle.std.specs.Prelude.{◌≡◌, Bool, ◌&&◌, ◌||◌, List, [], ◌∷◌, ◌++◌, eqb, length, take, drop}
use Rattle.std.proofs.Math.Path.{refl, sym}
use Rattle.std.proofs.Common.{ap, ◌∙◌, take-take}
use Rattle.std.proofs.Math.Bool.{true, false, cond}
use Prim.Native.Nat.{ℕ, zero, suc, ◌+◌, ◌≤◌}
use native.Mathlib.Omega.{arith}
use Rattle.std.proofs.Math.Seq.{take-nil}
use Rattle.laws.specs.Small.{differ, neither}
use Rattle.layout.specs.Text.{ascii}
use Rattle.layout.specs.Name.{Tail, none, some, Name, simple, one, two, head_byte, tail_byte}
use Rattle.names.specs.Heading.{Heading, heading, headings}
use Rattle.names.specs.Parse.{Read, broken, name, span, starts, common, tail_size, tail_of, ended, wrong, behind, missing, closed, opening, unopened_number, unopened_at, on_only, on_second, on_first, after_head, headed, name_in}
use Rattle.names.specs.Common.{common_le, starts-common, common_all, common-part, starts-longer}

-- the first n bytes are the same
abbrev pub Agree : (n : ℕ) (s s' : List ℕ) → Type 0
Agree n s s' = take n s ≡ take n s'

pub fewer : (m n : ℕ) (s s' : List ℕ) → m ≤ n → Agree n s s' → Agree m s s'
fewer m n s s' h e = sym (take-take m n s h) ∙ ap (take m) e ∙ take-take m n s' h

drop-take : (a n : ℕ) (s : List ℕ) → drop a (take (a + n) s) ≡ take n (drop a s)
drop-take zero n s = let z : 0 + n ≡ n = omega arith in rw z
drop-take (suc a) n [] = rw (take-nil {A = ℕ} (suc a + n), take-nil {A = ℕ} n)
drop-take (suc a) n (b ∷ s) = let z : suc a + n ≡ suc (a + n) = omega arith in rw z (drop-take a n s)

-- behind the first a bytes
pub further_on : (a n m : ℕ) (s s' : List ℕ) → a + n ≤ m → Agree m s s' → Agree n (drop a s) (drop a s')
further_on a n m s s' h e = sym (drop-take a n s) ∙ ap (drop a) (fewer (a + n) m s s' h e) ∙ drop-take a n s'

-- the first byte, or the end
empty_too : (n : ℕ) (s' : List ℕ) → Agree (suc n) [] s' → s' ≡ []
empty_too n [] e = refl
empty_too n (b ∷ s') e = absurd (let z = ap length e in omega arith)

module _ (n b : ℕ) (s : List ℕ) where
  pub not_empty : Agree (suc n) (b ∷ s) [] → ⊥
  not_empty e = let z = ap length e in omega arith

  module _ (b' : ℕ) (s' : List ℕ) (e : Agree (suc n) (b ∷ s) (b' ∷ s')) where
    pub same_first : b ≡ b'
    same_first = cc

    pub same_rest : Agree n s s'
    same_rest = cc

-- how far a class of bytes goes
pub span_local : (p : ℕ → Bool) (s s' : List ℕ) → Agree (suc (span p s)) s s' → span p s' ≡ span p s
unfolding span
span_local p [] s' e = rw (empty_too 0 s' e)
span_local p (b ∷ s) [] e = absurd (not_empty (cond (p b) (suc (span p s)) 0) b s e)
span_local p (b ∷ s) (b' ∷ s') e = go (p b) refl e (span_local p s s') where
  go : (x : Bool) → p b ≡ x → Agree (suc (cond x (suc (span p s)) 0)) (b ∷ s) (b' ∷ s') → (Agree (suc (span p s)) s s' → span p s' ≡ span p s)
      → cond (p b') (suc (span p s')) 0 ≡ cond x (suc (span p s)) 0
  go true q e f = rw (← same_first (suc (span p s)) b s b' s' e, q, f (same_rest (suc (span p s)) b s b' s' e))
  go false q e f = rw (← same_first 0 b s b' s' e, q)

-- how much of a text stands first
pub common_local : (w s s' : List ℕ) → Agree (suc (common w s)) s s' → common w s' ≡ common w s
unfolding common
common_local [] s s' e = refl
common_local (a ∷ w) [] s' e = rw (empty_too 0 s' e)
common_local (a ∷ w) (b ∷ s) [] e = absurd (not_empty (cond (eqb a b) (suc (common w s)) 0) b s e)
common_local (a ∷ w) (b ∷ s) (b' ∷ s') e = go (eqb a b) refl e (common_local w s s') where
  go : (x : Bool) → eqb a b ≡ x → Agree (suc (cond x (suc (common w s)) 0)) (b ∷ s) (b' ∷ s') → (Agree (suc (common w s)) s s' → common w s' ≡ common w s)
      → cond (eqb a b') (suc (common w s')) 0 ≡ cond x (suc (common w s)) 0
  go true q e f = rw (← same_first (suc (common w s)) b s b' s' e, q, f (same_rest (suc (common w s)) b s b' s' e))
  go false q e f = rw (← same_first 0 b s b' s' e, q)

-- a text that stands or does not, where enough bytes are the same
pub starts_local : (w s s' : List ℕ) (n : ℕ) → common w s ≤ n → Agree (suc n) s s' → starts w s' ≡ starts w s
starts_local w s s' n h e =
    let z = common_local w s s' (fewer (suc (common w s)) (suc n) s s' (omega arith) e) in
    starts-common w s' ∙ ap (λ (k : ℕ). eqb k (length w)) z ∙ sym (starts-common w s)

pub behind_local : (g : ℕ) (s s' : List ℕ) → Agree 1 s s' → behind g s' ≡ behind g s
unfolding behind
behind_local g [] s' e = rw (empty_too 0 s' e)
behind_local g (b ∷ s) [] e = absurd (not_empty 0 b s e)
behind_local g (b ∷ s) (b' ∷ s') e = rw (same_first 0 b s b' s' e)

-- a tail
pub tail_local : (s s' : List ℕ) → Agree (suc (tail_size s)) s s' → (tail_size s' ≡ tail_size s) × (tail_of s' ≡ tail_of s)
unfolding tail_size tail_of ascii
tail_local s s' e = go (starts (ascii ",") s) refl e where
  go : (x : Bool) → starts (ascii ",") s ≡ x → Agree (suc (cond x (suc (span tail_byte (drop 1 s))) 0)) s s'
      → (cond (starts (ascii ",") s') (suc (span tail_byte (drop 1 s'))) 0 ≡ cond x (suc (span tail_byte (drop 1 s))) 0)
      × (cond (starts (ascii ",") s') (some (take (span tail_byte (drop 1 s')) (drop 1 s'))) none ≡ cond x (some (take (span tail_byte (drop 1 s)) (drop 1 s))) none)
  go true q e =
      let z = span tail_byte (drop 1 s) in
      let t = starts_local (ascii ",") s s' (suc z) (omega (arith, common_le (ascii ",") s)) e ∙ q in
      let d = further_on 1 (suc z) (suc (suc z)) s s' (omega arith) e in
      let y = span_local tail_byte (drop 1 s) (drop 1 s') d in
      rw (t, y, sym (fewer z (suc z) (drop 1 s) (drop 1 s') (omega arith) d)) (refl, refl)
  go false q e =
      let t = starts_local (ascii ",") s s' 0 (let c = common-part (ascii ",") s q in omega arith) e ∙ q in
      rw t (refl, refl)

-- a longer text stands no further than its beginning, where that does not stand whole
longer : (t u s : List ℕ) → starts t s ≡ false → common (t ++ u) s ≤ common t s
unfolding starts common
longer [] u s e = differ cc
longer (a ∷ t) u [] e = omega arith
longer (a ∷ t) u (b ∷ s) e = go (eqb a b) e (longer t u s) where
  go : (x : Bool) → (x && starts t s) ≡ false → (starts t s ≡ false → common (t ++ u) s ≤ common t s) → cond x (suc (common (t ++ u) s)) 0 ≤ cond x (suc (common t s)) 0
  go true e f = omega (arith, f e)
  go false e f = omega arith

-- what follows a head, where enough bytes are the same
module _ (s s' : List ℕ) (n : ℕ) (e : Agree (suc n) s s') where
  opening_kept : common (ascii "`1[[") s ≤ n → common (ascii "`2[[") s ≤ n → common (ascii "`") s ≤ n → opening s' ≡ opening s
  unfolding opening
  opening_kept a b c = rw (starts_local (ascii "`1[[") s s' n a e, starts_local (ascii "`2[[") s s' n b e, starts_local (ascii "`") s s' n c e)

  unopened_kept : common (ascii "`1") s ≤ n → common (ascii "`2") s ≤ n → common (ascii "`1[") s ≤ n → common (ascii "`2[") s ≤ n
      → (unopened_number s' ≡ unopened_number s) × (unopened_at s' ≡ unopened_at s)
  unfolding unopened_number unopened_at
  unopened_kept a b c d =
      rw (starts_local (ascii "`1") s s' n a e, starts_local (ascii "`2") s s' n b e, starts_local (ascii "`1[") s s' n c e, starts_local (ascii "`2[") s s' n d e) (refl, refl)

  -- arguments are opened: four bytes and one more
  pub opened_local : 4 ≤ n → opening s' ≡ opening s
  unfolding ascii
  opened_local h = opening_kept (omega (arith, common_le (ascii "`1[[") s)) (omega (arith, common_le (ascii "`2[[") s)) (omega (arith, common_le (ascii "`") s))

-- by what stands behind the head
abbrev by : (a b c : Bool) → ℕ
by a b c = cond a 1 (cond b 2 (cond c 3 0))

-- no backquote
pub closed_local : (s s' : List ℕ) → Agree 1 s s' → opening s ≡ 0 → opening s' ≡ 0
unfolding opening ascii
closed_local s s' e z = go (starts (ascii "`1[[") s) (starts (ascii "`2[[") s) (starts (ascii "`") s) refl z where
  go : (a b c : Bool) → starts (ascii "`") s ≡ c → by a b c ≡ 0 → by (starts (ascii "`1[[") s') (starts (ascii "`2[[") s') (starts (ascii "`") s') ≡ 0
  go true b c q z = absurd (omega arith)
  go false true c q z = absurd (omega arith)
  go false false true q z = absurd (omega arith)
  go false false false q z =
      let t : starts (ascii "`") s' ≡ false = starts_local (ascii "`") s s' 0 (let c = common-part (ascii "`") s q in omega arith) e ∙ q in
      rw (starts-longer (ascii "`") (ascii "1[[") s' t, starts-longer (ascii "`") (ascii "2[[") s' t, t)

-- a backquote that opens no arguments: the bytes up to the fault and its own
module _ (s s' : List ℕ) (e : Agree (suc (unopened_at s)) s s') where
  -- by how far what is due stands
  abbrev Kept : Type 0
  Kept = (opening s' ≡ opening s) × ((unopened_number s' ≡ unopened_number s) × (unopened_at s' ≡ unopened_at s))

  kept : (n : ℕ) → Agree (suc n) s s' → common (ascii "`1[[") s ≤ n → common (ascii "`2[[") s ≤ n → common (ascii "`") s ≤ n
      → common (ascii "`1") s ≤ n → common (ascii "`2") s ≤ n → common (ascii "`1[") s ≤ n → common (ascii "`2[") s ≤ n → Kept
  kept n e a b c d f g h = (opening_kept s s' n e a b c, unopened_kept s s' n e d f g h)

  pub unopened_local : opening s ≡ 3 → Kept
  unfolding unopened_at opening ascii
  unopened_local z = go (starts (ascii "`1[[") s) (starts (ascii "`2[[") s) refl refl z where
    by_digit : starts (ascii "`1[[") s ≡ false → starts (ascii "`2[[") s ≡ false → (x y : Bool) → (starts (ascii "`1[") s || starts (ascii "`2[") s) ≡ x → (starts (ascii "`1") s || starts (ascii "`2") s) ≡ y
        → Agree (suc (cond x 3 (cond y 2 1))) s s' → Kept
    by_digit p q true y i j e =
        kept 3 e (let c = common-part (ascii "`1[[") s p in omega arith) (let c = common-part (ascii "`2[[") s q in omega arith)
        (omega (arith, common_le (ascii "`") s)) (omega (arith, common_le (ascii "`1") s)) (omega (arith, common_le (ascii "`2") s)) (omega (arith, common_le (ascii "`1[") s)) (omega (arith, common_le (ascii "`2[") s))
    by_digit p q false true i j e =
        let n = neither (starts (ascii "`1[") s) (starts (ascii "`2[") s) i in
        let c = common-part (ascii "`1[") s n.0 in
        let d = common-part (ascii "`2[") s n.1 in
        kept 2 e (omega (arith, longer (ascii "`1[") (ascii "[") s n.0)) (omega (arith, longer (ascii "`2[") (ascii "[") s n.1))
        (omega (arith, common_le (ascii "`") s)) (omega (arith, common_le (ascii "`1") s)) (omega (arith, common_le (ascii "`2") s)) (omega arith) (omega arith)
    by_digit p q false false i j e =
        let n = neither (starts (ascii "`1") s) (starts (ascii "`2") s) j in
        let c = common-part (ascii "`1") s n.0 in
        let d = common-part (ascii "`2") s n.1 in
        kept 1 e (omega (arith, longer (ascii "`1") (ascii "[[") s n.0)) (omega (arith, longer (ascii "`2") (ascii "[[") s n.1))
        (omega (arith, common_le (ascii "`") s)) (omega arith) (omega arith) (omega (arith, longer (ascii "`1") (ascii "[") s n.0)) (omega (arith, longer (ascii "`2") (ascii "[") s n.1))

    go : (a b : Bool) → starts (ascii "`1[[") s ≡ a → starts (ascii "`2[[") s ≡ b → by a b (starts (ascii "`") s) ≡ 3 → Kept
    go true b p q z = absurd (omega arith)
    go false true p q z = absurd (omega arith)
    go false false p q z = by_digit p q (starts (ascii "`1[") s || starts (ascii "`2[") s) (starts (ascii "`1") s || starts (ascii "`2") s) refl refl e

-- how far a name that starts at a place was read: up to its end, or to the fault
abbrev pub Reaches : (at : ℕ) → Read → (i : ℕ) → Type 0
Reaches at (broken m p hs) i = p ≡ at + i
Reaches at (name x k) i = k ≡ i

-- not faulty for its levels alone
abbrev pub Shallow : Read → Type 0
Shallow (broken m p hs) = m ≡ 38 → ⊥
Shallow (name x k) = Unit {0}

module _ (at : ℕ) (s s' : List ℕ) where
  ended_local : (n : Tail → Name) (e i : ℕ) → Reaches at (ended n s e) i → Agree (suc i) s s' → (e ≤ i) × (ended n s' e ≡ ended n s e)
  ended_local n e i r g =
      let t = tail_local (drop e s) (drop e s') (further_on e (suc (tail_size (drop e s))) (suc i) s s' (omega arith) g) in
      (omega arith, rw (t.0, t.1))

  -- a text that is due behind an argument and does not stand there
  module _ (w : List ℕ) (x : Name) (e i : ℕ) (hs : List Heading) where
    missing_local : Reaches at (missing w at x s e hs) i → Agree (suc i) s s' → (e ≤ i) × (missing w at x s' e hs ≡ missing w at x s e hs)
    missing_local r g =
        let c = common w (drop e s) in
        let d = further_on e (suc c) (suc i) s s' (omega arith) g in
        (omega arith, rw (common_local w (drop e s) (drop e s') d, behind_local (wrong x) (drop e s) (drop e s') (fewer 1 (suc c) (drop e s) (drop e s') (omega arith) d)))

    -- whether it stands
    stands_local : Agree (suc (e + common w (drop e s))) s s' → starts w (drop e s') ≡ starts w (drop e s)
    stands_local g =
        let c = common w (drop e s) in
        starts_local w (drop e s) (drop e s') c (omega arith) (further_on e (suc c) (suc (e + c)) s s' (omega arith) g)

  closed_same : (n : Tail → Name) (x : Name) (e i : ℕ) → Reaches at (closed at n x s e) i → Agree (suc i) s s' → (e ≤ i) × (closed at n x s' e ≡ closed at n x s e)
  unfolding closed ascii
  closed_same n x e i r g = go (starts (ascii "]]") (drop e s)) refl r where
    go : (b : Bool) → starts (ascii "]]") (drop e s) ≡ b → Reaches at (cond b (ended n s (e + 2)) (missing (ascii "]]") at x s e (headings at (n none)))) i
        → (e ≤ i) × (cond (starts (ascii "]]") (drop e s')) (ended n s' (e + 2)) (missing (ascii "]]") at x s' e (headings at (n none))) ≡ cond b (ended n s (e + 2)) (missing (ascii "]]") at x s e (headings at (n none))))
    go true q r =
        let t = ended_local n (e + 2) i r g in
        let c = common_all (ascii "]]") (drop e s) q in
        let y = stands_local (ascii "]]") x e i (headings at (n none)) (fewer (suc (e + common (ascii "]]") (drop e s))) (suc i) s s' (omega (arith, t.0)) g) ∙ q in
        (omega (arith, t.0), rw y t.1)
    go false q r =
        let t = missing_local (ascii "]]") x e i (headings at (n none)) r g in
        let y = stands_local (ascii "]]") x e i (headings at (n none)) (fewer (suc (e + common (ascii "]]") (drop e s))) (suc i) s s' (omega arith) g) ∙ q in
        (t.0, rw y t.1)

-- after a head of h bytes, where arguments are read alike
module _ (below below' : ℕ → List ℕ → Read) (reach : (p : ℕ) (r : List ℕ) → (j : ℕ) × Reaches p (below p r) j)
    (same_below : (p : ℕ) (r r' : List ℕ) (j : ℕ) → Reaches p (below p r) j → Shallow (below p r) → Agree (suc j) r r' → below' p r' ≡ below p r)
    (at : ℕ) (s s' : List ℕ) (h i : ℕ) (g : Agree (suc i) s s') where
  -- an argument from a on
  module _ (a j : ℕ) where
    below_same : Reaches (at + a) (below (at + a) (drop a s)) j → Shallow (below (at + a) (drop a s)) → a + j ≤ i → below' (at + a) (drop a s') ≡ below (at + a) (drop a s)
    below_same r f l = same_below (at + a) (drop a s) (drop a s') j r f (further_on a (suc j) (suc i) s s' (omega arith) g)

  heads : h ≤ i → take h s' ≡ take h s
  heads l = sym (fewer h (suc i) s s' (omega arith) g)

  only_same : (r : Read) → below (at + (h + 4)) (drop (h + 4) s) ≡ r → Reaches at (on_only at s h (h + 4) r) i → Shallow (on_only at s h (h + 4) r)
      → (h + 4 ≤ i) × (on_only at s' h (h + 4) (below' (at + (h + 4)) (drop (h + 4) s')) ≡ on_only at s h (h + 4) r)
  unfolding on_only
  only_same (broken m p hs) q r f =
      let y = reach (at + (h + 4)) (drop (h + 4) s) in
      let z : p ≡ at + (h + 4) + y.0 = rw q at y.1 in
      let b = below_same (h + 4) y.0 y.1 (rw q f) (omega arith) ∙ q in
      (omega arith, rw (b, heads (omega arith)))
  only_same (name x k) q r f =
      let y = reach (at + (h + 4)) (drop (h + 4) s) in
      let z : k ≡ y.0 = rw q at y.1 in
      let c = closed_same at s s' (one (take h s) x) x (h + 4 + k) i r g in
      let b = below_same (h + 4) y.0 y.1 (rw q tt) (omega (arith, c.0)) ∙ q in
      (omega (arith, c.0), rw (b, heads (omega (arith, c.0))) c.1)

  second_same : (x : Name) (b : ℕ) (r : Read) → below (at + b) (drop b s) ≡ r → h ≤ b → Reaches at (on_second at s h (h + 4) x b r) i → Shallow (on_second at s h (h + 4) x b r)
      → (b ≤ i) × (on_second at s' h (h + 4) x b (below' (at + b) (drop b s')) ≡ on_second at s h (h + 4) x b r)
  unfolding on_second
  second_same x b (broken m p hs) q l r f =
      let y = reach (at + b) (drop b s) in
      let z : p ≡ at + b + y.0 = rw q at y.1 in
      let d = below_same b y.0 y.1 (rw q f) (omega arith) ∙ q in
      (omega arith, rw (d, heads (omega arith)))
  second_same x b (name v k) q l r f =
      let y = reach (at + b) (drop b s) in
      let z : k ≡ y.0 = rw q at y.1 in
      let c = closed_same at s s' (two (take h s) x v) v (b + k) i r g in
      let d = below_same b y.0 y.1 (rw q tt) (omega (arith, c.0)) ∙ q in
      (omega (arith, c.0), rw (d, heads (omega (arith, c.0))) c.1)

  first_same : (r : Read) → below (at + (h + 4)) (drop (h + 4) s) ≡ r → Reaches at (on_first below at s h (h + 4) r) i → Shallow (on_first below at s h (h + 4) r)
      → (h + 4 ≤ i) × (on_first below' at s' h (h + 4) (below' (at + (h + 4)) (drop (h + 4) s')) ≡ on_first below at s h (h + 4) r)
  unfolding on_first ascii
  first_same (broken m p hs) q r f =
      let y = reach (at + (h + 4)) (drop (h + 4) s) in
      let z : p ≡ at + (h + 4) + y.0 = rw q at y.1 in
      let b = below_same (h + 4) y.0 y.1 (rw q f) (omega arith) ∙ q in
      (omega arith, rw (b, heads (omega arith)))
  first_same (name x k) q r f = go (starts (ascii "],[") (drop (h + 4 + k) s)) refl r f where
    a : ℕ
    a = h + 4

    e : ℕ
    e = h + 4 + k

    hs : List ℕ → List Heading
    hs u = heading (take h u) 2 at ∷ headings (at + a) x

    read_same : e ≤ i → below' (at + a) (drop a s') ≡ name x k
    read_same l =
        let y = reach (at + a) (drop a s) in
        let z : k ≡ y.0 = rw q at y.1 in
        below_same a y.0 y.1 (rw q tt) (omega arith) ∙ q

    go : (t : Bool) → starts (ascii "],[") (drop e s) ≡ t
        → Reaches at (cond t (on_second at s h a x (e + 3) (below (at + (e + 3)) (drop (e + 3) s))) (missing (ascii "],[") at x s e (hs s))) i
        → Shallow (cond t (on_second at s h a x (e + 3) (below (at + (e + 3)) (drop (e + 3) s))) (missing (ascii "],[") at x s e (hs s)))
        → (a ≤ i) × (on_first below' at s' h a (below' (at + a) (drop a s')) ≡ cond t (on_second at s h a x (e + 3) (below (at + (e + 3)) (drop (e + 3) s))) (missing (ascii "],[") at x s e (hs s)))
    go true w r f =
        let c = second_same x (e + 3) (below (at + (e + 3)) (drop (e + 3) s)) refl (omega arith) r f in
        let l = common_all (ascii "],[") (drop e s) w in
        let y = stands_local at s s' (ascii "],[") x e i (hs s) (fewer (suc (e + common (ascii "],[") (drop e s))) (suc i) s s' (omega (arith, c.0)) g) ∙ w in
        (omega (arith, c.0), rw (read_same (omega (arith, c.0)), y) c.1)
    go false w r f =
        let t = missing_local at s s' (ascii "],[") x e i (hs s) r g in
        let y = stands_local at s s' (ascii "],[") x e i (hs s) (fewer (suc (e + common (ascii "],[") (drop e s))) (suc i) s s' (omega arith) g) ∙ w in
        (omega (arith, t.0), rw (read_same t.0, y, heads (omega (arith, t.0))) t.1)

  after_same : (n : ℕ) → n ≡ opening (drop h s) → n ≤ 3 → Reaches at (after_head below at s h n) i → Shallow (after_head below at s h n)
      → (h ≤ i) × (opening (drop h s') ≡ n) × (after_head below' at s' h n ≡ after_head below at s h n)
  unfolding after_head
  after_same zero q l r f =
      let c = ended_local at s s' (simple (take h s)) h i r g in
      (c.0, closed_local (drop h s) (drop h s') (further_on h 1 (suc i) s s' (omega (arith, c.0)) g) (sym q), rw (heads c.0) c.1)
  after_same (suc zero) q l r f =
      let c = only_same (below (at + (h + 4)) (drop (h + 4) s)) refl r f in
      (omega (arith, c.0), opened_local (drop h s) (drop h s') 4 (further_on h 5 (suc i) s s' (omega (arith, c.0)) g) (omega arith) ∙ sym q, c.1)
  after_same (suc (suc zero)) q l r f =
      let c = first_same (below (at + (h + 4)) (drop (h + 4) s)) refl r f in
      (omega (arith, c.0), opened_local (drop h s) (drop h s') 4 (further_on h 5 (suc i) s s' (omega (arith, c.0)) g) (omega arith) ∙ sym q, c.1)
  after_same (suc (suc (suc zero))) q l r f =
      let c = unopened_local (drop h s) (drop h s') (further_on h (suc (unopened_at (drop h s))) (suc i) s s' (omega arith) g) (sym q) in
      (omega arith, c.0 ∙ sym q, rw (c.1.0, c.1.1))
  after_same (suc (suc (suc (suc n)))) q l r f = absurd (omega arith)

opening-most : (s : List ℕ) → opening s ≤ 3
unfolding opening
opening-most s = go (starts (ascii "`1[[") s) (starts (ascii "`2[[") s) (starts (ascii "`") s) where
  go : (a b c : Bool) → by a b c ≤ 3
  go true b c = omega arith
  go false true c = omega arith
  go false false true = omega arith
  go false false false = omega arith

-- every reading reaches some place
module _ (at : ℕ) (s : List ℕ) where
  closed_reach : (n : Tail → Name) (x : Name) (e : ℕ) → (i : ℕ) × Reaches at (closed at n x s e) i
  unfolding closed
  closed_reach n x e = go (starts (ascii "]]") (drop e s)) where
    go : (b : Bool) → (i : ℕ) × Reaches at (cond b (ended n s (e + 2)) (missing (ascii "]]") at x s e (headings at (n none)))) i
    go true = (e + 2 + tail_size (drop (e + 2) s), refl)
    go false = (e + common (ascii "]]") (drop e s), refl)

  module _ (below : ℕ → List ℕ → Read) (reach : (p : ℕ) (r : List ℕ) → (j : ℕ) × Reaches p (below p r) j) (h : ℕ) where
    only_reach : (a : ℕ) (r : Read) → (j : ℕ) × Reaches (at + a) r j → (i : ℕ) × Reaches at (on_only at s h a r) i
    unfolding on_only
    only_reach a (broken m p hs) y = (a + y.0, omega (arith, y.1))
    only_reach a (name x k) y = closed_reach (one (take h s) x) x (a + k)

    second_reach : (a : ℕ) (x : Name) (b : ℕ) (r : Read) → (j : ℕ) × Reaches (at + b) r j → (i : ℕ) × Reaches at (on_second at s h a x b r) i
    unfolding on_second
    second_reach a x b (broken m p hs) y = (b + y.0, omega (arith, y.1))
    second_reach a x b (name v k) y = closed_reach (two (take h s) x v) v (b + k)

    first_reach : (a : ℕ) (r : Read) → (j : ℕ) × Reaches (at + a) r j → (i : ℕ) × Reaches at (on_first below at s h a r) i
    unfolding on_first
    first_reach a (broken m p hs) y = (a + y.0, omega (arith, y.1))
    first_reach a (name x k) y = go (starts (ascii "],[") (drop (a + k) s)) where
      go : (b : Bool) → (i : ℕ) × Reaches at (cond b (on_second at s h a x (a + k + 3) (below (at + (a + k + 3)) (drop (a + k + 3) s))) (missing (ascii "],[") at x s (a + k) (heading (take h s) 2 at ∷ headings (at + a) x))) i
      go true = second_reach a x (a + k + 3) (below (at + (a + k + 3)) (drop (a + k + 3) s)) (reach (at + (a + k + 3)) (drop (a + k + 3) s))
      go false = (a + k + common (ascii "],[") (drop (a + k) s), refl)

    after_reach : (n : ℕ) → (i : ℕ) × Reaches at (after_head below at s h n) i
    unfolding after_head
    after_reach zero = (h + tail_size (drop h s), refl)
    after_reach (suc zero) = only_reach (h + 4) (below (at + (h + 4)) (drop (h + 4) s)) (reach (at + (h + 4)) (drop (h + 4) s))
    after_reach (suc (suc zero)) = first_reach (h + 4) (below (at + (h + 4)) (drop (h + 4) s)) (reach (at + (h + 4)) (drop (h + 4) s))
    after_reach (suc (suc (suc n))) = (h + unopened_at (drop h s), refl)

head_reach : (below : ℕ → List ℕ → Read) → ((p : ℕ) (r : List ℕ) → (j : ℕ) × Reaches p (below p r) j) → (at : ℕ) (s : List ℕ) (h : ℕ) → (i : ℕ) × Reaches at (headed below at s h) i
unfolding headed
head_reach below reach at s zero = (0, omega arith)
head_reach below reach at s (suc h) = after_reach at s below reach (suc h) (opening (drop (suc h) s))

pub reaches : (l at : ℕ) (s : List ℕ) → (i : ℕ) × Reaches at (name_in l at s) i
unfolding name_in
reaches zero at s = (0, omega arith)
reaches (suc l) at s = head_reach (name_in l) (reaches l) at s (span head_byte s)

head_same : (below below' : ℕ → List ℕ → Read) → ((p : ℕ) (r : List ℕ) → (j : ℕ) × Reaches p (below p r) j)
    → ((p : ℕ) (r r' : List ℕ) (j : ℕ) → Reaches p (below p r) j → Shallow (below p r) → Agree (suc j) r r' → below' p r' ≡ below p r)
    → (at : ℕ) (s s' : List ℕ) (i h : ℕ) → h ≡ span head_byte s → Reaches at (headed below at s h) i → Shallow (headed below at s h) → Agree (suc i) s s'
    → headed below' at s' (span head_byte s') ≡ headed below at s h
unfolding headed
head_same below below' reach same at s s' i zero q r f g =
    let y : span head_byte s' ≡ 0 = span_local head_byte s s' (fewer (suc (span head_byte s)) (suc i) s s' (omega arith) g) ∙ sym q in
    rw y
head_same below below' reach same at s s' i (suc h) q r f g =
    let c = after_same below below' reach same at s s' (suc h) i g (opening (drop (suc h) s)) refl (opening-most (drop (suc h) s)) r f in
    let y : span head_byte s' ≡ suc h = span_local head_byte s s' (fewer (suc (span head_byte s)) (suc i) s s' (omega (arith, c.0)) g) ∙ sym q in
    rw (y, c.1) c.2

-- what was read is read again, where the bytes up to the place that it reached are the same, and the next one, or the end
pub same_read : (l d at : ℕ) (s s' : List ℕ) (i : ℕ) → Reaches at (name_in l at s) i → Shallow (name_in l at s) → Agree (suc i) s s' → name_in (l + d) at s' ≡ name_in l at s
unfolding name_in
same_read zero d at s s' i r f g = absurd (f refl)
same_read (suc l) d at s s' i r f g =
    let z : suc l + d ≡ suc (l + d) = omega arith in
    rw z (head_same (name_in l) (name_in (l + d)) (reaches l) (same_read l d) at s s' i (span head_byte s) refl r f g)
