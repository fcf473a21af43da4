-- Where two names begin with the same bytes, a head that starts in the one right behind these starts in the other too. Assumes nothing.
use Rattle.std.specs.Prelude.{◌≡◌, List, [], ◌∷◌, ◌++◌, ◌⊎◌, drop}
use Rattle.std.proofs.Math.Path.{refl, ap}
use Rattle.std.proofs.Common.{sym, subst, ◌∙◌, inl, inr, arith, length-append}
use Prim.Native.Nat.{ℕ, zero, suc, ◌+◌, ◌≤◌}
use Prim.Native.Char.{code}
use Rattle.std.proofs.Math.ListN.{length, take}
use Rattle.std.proofs.Math.Seq.{drop-append_seam, take-append_seam}
use Rattle.layout.specs.Text.{ascii}
use Rattle.layout.specs.Name.{Tail, none, some, Name, simple, one, two, write_tail, write, head_byte, Tailed, Formed, NameHead, long}
use Rattle.layout.specs.Fault.{Part, head_start, Place, start, only, first, second}
use Rattle.names.specs.Parse.{Read, name, span, name_in}
use Rattle.names.specs.Complete.{Stops, end, bracket, span_all, tail-opens, complete, past}
use Rattle.names.specs.Local.{Agree, fewer, further_on, not_empty, same_first, same_rest, span_local, Reaches, Shallow, same_read}
use Rattle.names.specs.Faults.{formed_more}

-- a head that starts in a name is its own, or one in its arguments
record Own (r i : ℕ) : Type 0 where
  level : r ≡ 1
  first_byte : i ≡ 0

record Inside (at : ℕ) (a : Name) (r i : ℕ) : Type 0 where
  r' : ℕ
  i' : ℕ
  level : r ≡ suc r'
  there : i ≡ at + i'
  place : Place r' head_start a i'

in_simple : {h : List ℕ} {t : Tail} {r i : ℕ} → Place r head_start (simple h t) i → Own r i
in_simple start = record { level = refl; first_byte = refl }

in_one : {h : List ℕ} {a : Name} {t : Tail} {r i : ℕ} → Place r head_start (one h a t) i → Own r i ⊎ Inside (length h + 4) a r i
in_one start = inl (record { level = refl; first_byte = refl })
in_one (only {l = l} {j = j} e w) = inr (record { r' = l; i' = j; level = refl; there = e; place = w })

in_two : {h : List ℕ} {a b : Name} {t : Tail} {r i : ℕ} → Place r head_start (two h a b t) i
    → Own r i ⊎ (Inside (length h + 4) a r i ⊎ Inside (length h + 4 + long a + 3) b r i)
in_two start = inl (record { level = refl; first_byte = refl })
in_two (first {l = l} {j = j} e w) = inr (inl (record { r' = l; i' = j; level = refl; there = e; place = w }))
in_two (second {l = l} {j = j} e w) = inr (inr (record { r' = l; i' = j; level = refl; there = e; place = w }))

at_start : {n : Name} {r i : ℕ} → Own r i → Place r head_start n i
at_start o = rw (o.level, o.first_byte) start

-- ---- what stands behind a head

-- a name as its head and what follows it
unfoldable head_of : Name → List ℕ
head_of (simple h t) = h
head_of (one h a t) = h
head_of (two h a b t) = h

unfoldable behind : Name → List ℕ → List ℕ
behind (simple h t) v = write_tail t v
behind (one h a t) v = ascii "`1[[" ++ write a (ascii "]]" ++ write_tail t v)
behind (two h a b t) v = ascii "`2[[" ++ write a (ascii "],[" ++ write b (ascii "]]" ++ write_tail t v))

headed : (n : Name) (v : List ℕ) → write n v ≡ head_of n ++ behind n v
unfolding head_of behind write
headed (simple h t) v = refl
headed (one h a t) v = refl
headed (two h a b t) v = refl

head-ends : (n : Name) {v : List ℕ} → Stops v → span head_byte (behind n v) ≡ 0
unfolding behind span head_byte ascii
head-ends (simple h t) w = (tail-opens t w).0
head-ends (one h a t) w = refl
head-ends (two h a b t) w = refl

head_is : (l : ℕ) (n : Name) → Formed l n → NameHead (head_of n)
unfolding head_of Formed
head_is zero n f = absurd f
head_is (suc l) (simple h t) f = f.0
head_is (suc l) (one h a t) f = f.0
head_is (suc l) (two h a b t) f = f.0

head-size : (l : ℕ) (n : Name) {v : List ℕ} → Formed l n → Stops v → span head_byte (write n v) ≡ length (head_of n)
head-size l n {v} f w = ap (span head_byte) (headed n v) ∙ span_all head_byte (head_of n) (behind n v) (head_is l n f).bytes (head-ends n w)

-- two names that agree past the head of the first have the same head, and what follows it agrees
module _ (a b : Name) (u v : List ℕ) (la lb k i : ℕ) (f : Formed la a) (g : Formed lb b) (p : Stops u) (q : Stops v) (e : Agree i (write a u) (write b v)) (h : length (head_of a) + suc k ≡ i) where
  same_size : length (head_of b) ≡ length (head_of a)
  same_size =
      let x = head-size la a f p in
      sym (head-size lb b g q) ∙ span_local head_byte (write a u) (write b v) (fewer (suc (span head_byte (write a u))) i (write a u) (write b v) (omega (arith, x)) e) ∙ x

  take_head : (n : Name) (w : List ℕ) → take (length (head_of n)) (write n w) ≡ head_of n
  take_head n w = ap (take (length (head_of n))) (headed n w) ∙ take-append_seam (head_of n) (behind n w)

  drop_head : (n : Name) (w : List ℕ) → drop (length (head_of n)) (write n w) ≡ behind n w
  drop_head n w = ap (drop (length (head_of n))) (headed n w) ∙ drop-append_seam (head_of n) (behind n w)

  same_behind : Agree (suc k) (behind a u) (behind b v)
  same_behind =
      let m = length (head_of a) in
      let x = further_on m (suc k) i (write a u) (write b v) (omega arith) e in
      let y : drop m (write b v) ≡ behind b v = rw same_size at (drop_head b v) in
      ap (take (suc k)) (sym (drop_head a u)) ∙ x ∙ ap (take (suc k)) y

-- ---- what opens arguments

-- a backquote goes on no tail
not_tail : (k : ℕ) (x : List ℕ) (t : Tail) {v : List ℕ} → Stops v → Agree (suc k) (code "`" ∷ x) (write_tail t v) → ⊥
unfolding write_tail ascii
not_tail k x none end e = not_empty k (code "`") x e
not_tail k x none (bracket {r = r}) e = omega (arith, same_first k (code "`") x (code "]") r e)
not_tail k x (some t) {v} w e = omega (arith, same_first k (code "`") x (code ",") (t ++ v) e)

-- one digit is not the other
not_one : (k : ℕ) (x y : List ℕ) → Agree (suc (suc k)) (code "`" ∷ code "1" ∷ x) (code "`" ∷ code "2" ∷ y) → ⊥
not_one k x y e = omega (arith, same_first k (code "1") x (code "2") y (same_rest (suc k) (code "`") (code "1" ∷ x) (code "`") (code "2" ∷ y) e))

four : (k c₁ c₂ c₃ c₄ : ℕ) (x y : List ℕ) → Agree (suc (suc (suc (suc k)))) (c₁ ∷ c₂ ∷ c₃ ∷ c₄ ∷ x) (c₁ ∷ c₂ ∷ c₃ ∷ c₄ ∷ y) → Agree k x y
four k c₁ c₂ c₃ c₄ x y e =
    let e₁ = same_rest (suc (suc (suc k))) c₁ (c₂ ∷ c₃ ∷ c₄ ∷ x) c₁ (c₂ ∷ c₃ ∷ c₄ ∷ y) e in
    let e₂ = same_rest (suc (suc k)) c₂ (c₃ ∷ c₄ ∷ x) c₂ (c₃ ∷ c₄ ∷ y) e₁ in
    let e₃ = same_rest (suc k) c₃ (c₄ ∷ x) c₃ (c₄ ∷ y) e₂ in
    same_rest k c₄ x c₄ y e₃

-- names that are followed by a bracket, and agree up to it, are the same
same_name : (x y : Name) (u v : List ℕ) → Formed 9 x → Formed 9 y → Agree (suc (long x)) (write x (code "]" ∷ u)) (write y (code "]" ∷ v)) → x ≡ y
same_name x y u v f g e =
    let a : name_in 9 0 (write x (code "]" ∷ u)) ≡ name x (long x) = complete 9 0 x f bracket in
    let b : name_in 9 0 (write y (code "]" ∷ v)) ≡ name y (long y) = complete 9 0 y g bracket in
    let c : name_in (9 + 0) 0 (write y (code "]" ∷ v)) ≡ name_in 9 0 (write x (code "]" ∷ u))
    = same_read 9 0 0 (write x (code "]" ∷ u)) (write y (code "]" ∷ v)) (long x) (rw a refl) (rw a tt) e in
    let z : name y (long y) ≡ name x (long x) = sym b ∙ c ∙ a in
    cc

-- behind names that are the same
behind_name : (x : Name) (u v : List ℕ) (k i : ℕ) → long x + k ≡ i → Agree i (write x u) (write x v) → Agree k u v
behind_name x u v k i h e =
    let d = further_on (long x) k i (write x u) (write x v) (omega arith) e in
    let z : long x + 0 ≡ long x = omega arith in
    let a : drop (long x) (write x u) ≡ u = rw z at (past x u 0) in
    let b : drop (long x) (write x v) ≡ v = rw z at (past x v 0) in
    ap (take k) (sym a) ∙ d ∙ ap (take k) b

-- ---- the law

abbrev Same : Name → Type 0
Same a = (b : Name) (u v : List ℕ) (r i : ℕ) → Formed 9 a → Formed 9 b → Stops u → Stops v → Agree i (write a u) (write b v) → Place r head_start a i → Place r head_start b i

lift : (n : Name) → Formed 8 n → Formed 9 n
lift n f = formed_more 1 8 n f

module _ (h : List ℕ) (x : Name) (t : Tail) (same : Same x) where
  one_same : (b : Name) (u v : List ℕ) (r i : ℕ) → Formed 9 (one h x t) → Formed 9 b → Stops u → Stops v → Agree i (write (one h x t) u) (write b v)
      → Inside (length h + 4) x r i → Place r head_start b i
  unfolding Formed head_of behind ascii
  one_same (simple h' t') u v r i f g p q e y =
      absurd (not_tail (suc (suc (suc y.i'))) (code "1" ∷ code "[" ∷ code "[" ∷ write x (ascii "]]" ++ write_tail t u)) t' q (same_behind (one h x t) (simple h' t') u v 9 9 (suc (suc (suc y.i'))) i f g p q e (omega (arith, y.there))))
  one_same (two h' z w t') u v r i f g p q e y =
      absurd (not_one (suc (suc y.i')) (code "[" ∷ code "[" ∷ write x (ascii "]]" ++ write_tail t u)) (code "[" ∷ code "[" ∷ write z (ascii "],[" ++ write w (ascii "]]" ++ write_tail t' v)))
      (same_behind (one h x t) (two h' z w t') u v 9 9 (suc (suc (suc y.i'))) i f g p q e (omega (arith, y.there))))
  one_same (one h' z t') u v r i f g p q e y =
      let j = y.i' in
      let k : length h + suc (suc (suc (suc j))) ≡ i = omega (arith, y.there) in
      let n : length h' ≡ length h = same_size (one h x t) (one h' z t') u v 9 9 (suc (suc (suc j))) i f g p q e k in
      let c = four j (code "`") (code "1") (code "[") (code "[") (write x (ascii "]]" ++ write_tail t u)) (write z (ascii "]]" ++ write_tail t' v))
      (same_behind (one h x t) (one h' z t') u v 9 9 (suc (suc (suc j))) i f g p q e k) in
      let place = same z (ascii "]]" ++ write_tail t u) (ascii "]]" ++ write_tail t' v) y.r' j (lift x f.1) (lift z g.1) bracket bracket c y.place in
      let z₁ : i ≡ length h' + 4 + j = omega (arith, y.there, n) in
      rw y.level (only z₁ place)

module _ (h : List ℕ) (x x₂ : Name) (t : Tail) (same : Same x) (same₂ : Same x₂) where
  abbrev whole : Name
  whole = two h x x₂ t

  abbrev rest : Tail → Name → List ℕ → List ℕ
  rest t n u = ascii "],[" ++ write n (ascii "]]" ++ write_tail t u)

  first_same : (b : Name) (u v : List ℕ) (r i : ℕ) → Formed 9 whole → Formed 9 b → Stops u → Stops v → Agree i (write whole u) (write b v)
      → Inside (length h + 4) x r i → Place r head_start b i
  unfolding Formed head_of behind ascii
  first_same (simple h' t') u v r i f g p q e y =
      absurd (not_tail (suc (suc (suc y.i'))) (code "2" ∷ code "[" ∷ code "[" ∷ write x (rest t x₂ u)) t' q (same_behind whole (simple h' t') u v 9 9 (suc (suc (suc y.i'))) i f g p q e (omega (arith, y.there))))
  first_same (one h' z t') u v r i f g p q e y =
      absurd (not_one (suc (suc y.i')) (code "[" ∷ code "[" ∷ write z (ascii "]]" ++ write_tail t' v)) (code "[" ∷ code "[" ∷ write x (rest t x₂ u))
      (sym (same_behind whole (one h' z t') u v 9 9 (suc (suc (suc y.i'))) i f g p q e (omega (arith, y.there)))))
  first_same (two h' z z₂ t') u v r i f g p q e y =
      let j = y.i' in
      let k : length h + suc (suc (suc (suc j))) ≡ i = omega (arith, y.there) in
      let n : length h' ≡ length h = same_size whole (two h' z z₂ t') u v 9 9 (suc (suc (suc j))) i f g p q e k in
      let c = four j (code "`") (code "2") (code "[") (code "[") (write x (rest t x₂ u)) (write z (rest t' z₂ v))
      (same_behind whole (two h' z z₂ t') u v 9 9 (suc (suc (suc j))) i f g p q e k) in
      let place = same z (rest t x₂ u) (rest t' z₂ v) y.r' j (lift x f.1) (lift z g.1) bracket bracket c y.place in
      let z₁ : i ≡ length h' + 4 + j = omega (arith, y.there, n) in
      rw y.level (first z₁ place)

  second_same : (b : Name) (u v : List ℕ) (r i : ℕ) → Formed 9 whole → Formed 9 b → Stops u → Stops v → Agree i (write whole u) (write b v)
      → Inside (length h + 4 + long x + 3) x₂ r i → Place r head_start b i
  unfolding Formed head_of behind ascii
  second_same (simple h' t') u v r i f g p q e y =
      let m = suc (suc (suc (long x + suc (suc (suc y.i'))))) in
      absurd (not_tail m (code "2" ∷ code "[" ∷ code "[" ∷ write x (rest t x₂ u)) t' q (same_behind whole (simple h' t') u v 9 9 m i f g p q e (omega (arith, y.there))))
  second_same (one h' z t') u v r i f g p q e y =
      let m = suc (suc (suc (long x + suc (suc (suc y.i'))))) in
      absurd (not_one (suc (suc (long x + suc (suc (suc y.i'))))) (code "[" ∷ code "[" ∷ write z (ascii "]]" ++ write_tail t' v)) (code "[" ∷ code "[" ∷ write x (rest t x₂ u))
      (sym (same_behind whole (one h' z t') u v 9 9 m i f g p q e (omega (arith, y.there)))))
  second_same (two h' z z₂ t') u v r i f g p q e y =
      let j = y.i' in
      let a = long x + suc (suc (suc j)) in
      let k : length h + suc (suc (suc (suc a))) ≡ i = omega (arith, y.there) in
      let n : length h' ≡ length h = same_size whole (two h' z z₂ t') u v 9 9 (suc (suc (suc a))) i f g p q e k in
      let c = four a (code "`") (code "2") (code "[") (code "[") (write x (rest t x₂ u)) (write z (rest t' z₂ v))
      (same_behind whole (two h' z z₂ t') u v 9 9 (suc (suc (suc a))) i f g p q e k) in
      let xz : x ≡ z = same_name x z (ascii ",[" ++ write x₂ (ascii "]]" ++ write_tail t u)) (ascii ",[" ++ write z₂ (ascii "]]" ++ write_tail t' v)) (lift x f.1) (lift z g.1)
      (fewer (suc (long x)) a (write x (rest t x₂ u)) (write z (rest t' z₂ v)) (omega arith) c) in
      let d = behind_name x (rest t x₂ u) (rest t' z₂ v) (suc (suc (suc j))) a refl (c ∙ ap (λ (n : Name). take a (write n (rest t' z₂ v))) (sym xz)) in
      let X = write x₂ (ascii "]]" ++ write_tail t u) in
      let Z = write z₂ (ascii "]]" ++ write_tail t' v) in
      let d₁ = same_rest (suc (suc j)) (code "]") (code "," ∷ code "[" ∷ X) (code "]") (code "," ∷ code "[" ∷ Z) d in
      let d₂ = same_rest (suc j) (code ",") (code "[" ∷ X) (code ",") (code "[" ∷ Z) d₁ in
      let d₃ = same_rest j (code "[") X (code "[") Z d₂ in
      let place = same₂ z₂ (ascii "]]" ++ write_tail t u) (ascii "]]" ++ write_tail t' v) y.r' j (lift x₂ f.2) (lift z₂ g.2) bracket bracket d₃ y.place in
      let z₁ : i ≡ length h' + 4 + long z + 3 + j = omega (arith, y.there, n, ap long xz) in
      rw y.level (second z₁ place)

pub place_same : (a : Name) → Same a
place_same (simple h t) b u v r i f g p q e w = at_start (in_simple w)
place_same (one h x t) b u v r i f g p q e w = go (in_one w) (one_same h x t (place_same x) b u v r i f g p q e) where
  go : Own r i ⊎ Inside (length h + 4) x r i → (Inside (length h + 4) x r i → Place r head_start b i) → Place r head_start b i
  go (inl o) k = at_start o
  go (inr y) k = k y
place_same (two h x x₂ t) b u v r i f g p q e w =
    go (in_two w) (first_same h x x₂ t (place_same x) (place_same x₂) b u v r i f g p q e) (second_same h x x₂ t (place_same x) (place_same x₂) b u v r i f g p q e)
  where
    go : Own r i ⊎ (Inside (length h + 4) x r i ⊎ Inside (length h + 4 + long x + 3) x₂ r i)
        → (Inside (length h + 4) x r i → Place r head_start b i) → (Inside (length h + 4 + long x + 3) x₂ r i → Place r head_start b i) → Place r head_start b i
    go (inl o) k m = at_start o
    go (inr (inl y)) k m = k y
    go (inr (inr y)) k m = m y
