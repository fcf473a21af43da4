-- What the parser answers of a name that is broken is what 02 says of it. Assumes nothing.
use Rattle.std.specs.Prelude.{◌≡◌, Bool, ◌||◌, cond, ◌⊎◌, eqb, take}
use Rattle.std.proofs.Math.Path.{refl, sym, ap}
use Rattle.std.proofs.Common.{subst, ◌∙◌, inr, arith, length-take, length-drop, take-append-drop, drop-drop, length-take-le, eq-eqb, ne_eqb, eqb-true}
use Rattle.std.proofs.Math.Bool.{true, false}
use mathlib.Core.List.{List, [], ◌∷◌, ◌++◌, append_assoc, append-nil}
use Rattle.std.proofs.Math.Logic.{inl}
use Prim.Native.Nat.{ℕ, zero, suc, ◌+◌, ◌≤◌, ◌<◌}
use Prim.Native.Char.{code}
use Rattle.std.proofs.Math.ListN.{length, drop, length-append}
use Rattle.std.proofs.Math.Seq.{take-append-add}
use Rattle.std.proofs.lemmas.List.{take-append-le}
use Rattle.std.proofs.lemmas.Bool.{eqb-false}
use Rattle.laws.specs.Small.{differ}
use Rattle.layout.specs.Text.{ascii}
use Rattle.layout.specs.Name.{Tail, none, some, Name, simple, one, two, write_tail, write, text, head_byte, all, Tailed, Formed, NameHead, long_tail, long}
use Rattle.layout.specs.Fault.{Part, head_start, head_end, digit, brackets, tail_end_lem, Place, start, head, digit_1, opens_1, opens_2, closes_1, divides, closes_2, behind_1, behind_2, tail_0, tail_1, tail_2, only, first, second, fault_number, Fault}
use Rattle.names.specs.Heading.{Heading, headings}
use Rattle.names.specs.Parse.{Read, broken, name, span, starts, common, ended, wrong_by, wrong, behind, closed, opening, unopened_number, unopened_at, on_only, on_second, on_first, after_head, headed, name_in, whole, name_of}
use Rattle.names.specs.Common.{common_le, common-fits, common_is, common-part, starts-longer}
use Rattle.names.specs.Complete.{length-write, write-append, complete, end}
use Rattle.names.specs.Sound.{Ok, NameStands, sound, span_le, span_is, starts_is}
use Rattle.names.specs.Local.{Reaches, Shallow, same_read}

-- a name to go on with: a head of one letter
bare : Name
bare = simple (ascii "A") none

bare_formed : (l : ℕ) → Formed (suc l) bare
unfolding Formed Tailed bare ascii all head_byte
bare_formed l = (record { some = λ q. differ cc; bytes = refl }, tt)

-- a name may nest more levels
formed_up : (l : ℕ) (n : Name) → Formed l n → Formed (suc l) n
unfolding Formed
formed_up zero n f = absurd f
formed_up (suc l) (simple h t) f = f
formed_up (suc l) (one h a t) f = (f.0, formed_up l a f.1, f.2)
formed_up (suc l) (two h a b t) f = (f.0, formed_up l a f.1, formed_up l b f.2, f.3)

pub formed_more : (d l : ℕ) (n : Name) → Formed l n → Formed (d + l) n
formed_more zero l n f = let z : 0 + l ≡ l = omega arith in rw z f
formed_more (suc d) l n f = let z : suc d + l ≡ suc (d + l) = omega arith in rw z (formed_up (d + l) n (formed_more d l n f))

-- a name has no place at a level that it does not nest
some_level : (l : ℕ) (n : Name) → Formed l n → 1 ≤ l
unfolding Formed
some_level zero n f = absurd f
some_level (suc l) n f = omega arith

-- where heads start in a name: at its start, or in its arguments
record InSimple (r j : ℕ) : Type 0 where
  level : r ≡ 1
  first_byte : j ≡ 0

in_simple : {h : List ℕ} {t : Tail} {r j : ℕ} → Place r head_start (simple h t) j → InSimple r j
in_simple start = record { level = refl; first_byte = refl }

-- in the argument at a place
record InArgument (at : ℕ) (a : Name) (r j : ℕ) : Type 0 where
  r' : ℕ
  j' : ℕ
  level : r ≡ suc r'
  there : j ≡ at + j'
  place : Place r' head_start a j'

in_one : {h : List ℕ} {a : Name} {t : Tail} {r j : ℕ} → Place r head_start (one h a t) j → InSimple r j ⊎ InArgument (length h + 4) a r j
in_one start = inl (record { level = refl; first_byte = refl })
in_one (only {l = l} {j = j} e w) = inr (record { r' = l; j' = j; level = refl; there = e; place = w })

in_two : {h : List ℕ} {a b : Name} {t : Tail} {r j : ℕ} → Place r head_start (two h a b t) j
    → InSimple r j ⊎ (InArgument (length h + 4) a r j ⊎ InArgument (length h + 4 + long a + 3) b r j)
in_two start = inl (record { level = refl; first_byte = refl })
in_two (first {l = l} {j = j} e w) = inr (inl (record { r' = l; j' = j; level = refl; there = e; place = w }))
in_two (second {l = l} {j = j} e w) = inr (inr (record { r' = l; j' = j; level = refl; there = e; place = w }))

by_argument : {a : Name} {at l r j : ℕ} → ((r j : ℕ) → Place r head_start a j → r ≤ l) → InArgument at a r j → r ≤ suc l
by_argument f x = omega (arith, x.level, f x.r' x.j' x.place)

place-level : (l : ℕ) (n : Name) → Formed l n → (r j : ℕ) → Place r head_start n j → r ≤ l
unfolding Formed
place-level zero n f r j w = absurd f
place-level (suc l) (simple h t) f r j w = omega (arith, (in_simple w).level)
place-level (suc l) (one h a t) f r j w = go (in_one w) (by_argument (place-level l a f.1)) where
  go : InSimple r j ⊎ InArgument (length h + 4) a r j → (InArgument (length h + 4) a r j → r ≤ suc l) → r ≤ suc l
  go (inl x) g = omega (arith, x.level)
  go (inr x) g = g x
place-level (suc l) (two h a b t) f r j w = go (in_two w) (by_argument (place-level l a f.1)) (by_argument (place-level l b f.2)) where
  go : InSimple r j ⊎ (InArgument (length h + 4) a r j ⊎ InArgument (length h + 4 + long a + 3) b r j)
      → (InArgument (length h + 4) a r j → r ≤ suc l) → (InArgument (length h + 4 + long a + 3) b r j → r ≤ suc l) → r ≤ suc l
  go (inl x) g k = omega (arith, x.level)
  go (inr (inl x)) g k = g x
  go (inr (inr x)) g k = k x

-- the parts of level 9 start behind the fault, or there, where it is 38
abbrev Leftmost : (b : ℕ) → Name → (number i : ℕ) → Type 0
Leftmost b n number i = (r j : ℕ) → b + r ≡ 9 → Place r head_start n j → (i < j) ⊎ ((i ≡ j) × (number ≡ 38))

-- a part that is broken at i, b levels below the reader's own name; it may nest l levels, and the name that it begins one more
record Piece (b l : ℕ) (s : List ℕ) (number i : ℕ) : Type 0 where
  inside : i ≤ length s
  n : Name
  formed : Formed (suc l) n
  reach : i ≤ long n
  before : take i (text n) ≡ take i s
  level : ℕ
  part : Part
  place : Place level part n i
  is : number ≡ fault_number (b + level) part (eqb i (length s))
  leftmost : Leftmost b n number i

-- P holds of the fault that an answer at a place tells
record Faulty (at : ℕ) (P : ℕ → ℕ → Type 0) (r : Read) : Type 0 where
  got : {m p : ℕ} {hs : List Heading} → r ≡ broken m p hs → (i : ℕ) × (p ≡ at + i) × P m i

module _ {at : ℕ} {P : ℕ → ℕ → Type 0} where
  no_fault : {n : Name} {k : ℕ} → Faulty at P (name n k)
  no_fault = record { got = λ q. differ cc }

  a_fault : (number i place : ℕ) {hs : List Heading} → place ≡ at + i → P number i → Faulty at P (broken number place hs)
  a_fault number i place e x = record { got = λ {m} {p} q. let z : number ≡ m = cc in let y : place ≡ p = cc in (i, sym y ∙ e, subst (λ k. P k i) z x) }

  by_test : (t : Bool) {x y : Read} → (t ≡ true → Faulty at P x) → (t ≡ false → Faulty at P y) → Faulty at P (cond t x y)
  by_test true f g = f refl
  by_test false f g = g refl

-- where a name ends, and what is wrong there
record Last (n : Name) : Type 0 where
  part : Part
  place : Place 1 part n (long n)
  is : (level : ℕ) (ended : Bool) → fault_number level part ended ≡ cond ended 36 (wrong n)

same_36 : (ended : Bool) → ◌≡◌ {A = ℕ} 36 (cond ended 36 36)
same_36 true = refl
same_36 false = refl

last : (n : Name) → Last n
unfolding fault_number wrong wrong_by
last (simple h none) = record { part = head_end; place = head; is = λ l e. refl }
last (simple h (some t)) = record { part = tail_end_lem; place = tail_0; is = λ l e. refl }
last (one h a none) = record { part = brackets; place = behind_1; is = λ l e. same_36 e }
last (one h a (some t)) = record { part = tail_end_lem; place = tail_1; is = λ l e. refl }
last (two h a b none) = record { part = brackets; place = behind_2; is = λ l e. same_36 e }
last (two h a b (some t)) = record { part = tail_end_lem; place = tail_2; is = λ l e. refl }

-- lists that begin alike
take_same : (p x y : List ℕ) (j : ℕ) → take j x ≡ take j y → take (length p + j) (p ++ x) ≡ take (length p + j) (p ++ y)
take_same p x y j e = take-append-add p x j ∙ ap (λ (l : List ℕ). p ++ l) e ∙ sym (take-append-add p y j)

eqb_plus : (a m n : ℕ) → eqb (a + m) (a + n) ≡ eqb m n
eqb_plus a m n = go (eqb m n) refl where
  go : (x : Bool) → eqb m n ≡ x → eqb (a + m) (a + n) ≡ x
  go true e = eq-eqb (a + m) (a + n) (ap (λ (k : ℕ). a + k) (eqb-true m n e))
  go false e = ne_eqb (a + m) (a + n) (λ q. eqb-false m n e (omega arith))

eqb-turn : (m n : ℕ) (x : Bool) → eqb m n ≡ x → eqb n m ≡ x
eqb-turn m n true e = eq-eqb n m (sym (eqb-true m n e))
eqb-turn m n false e = ne_eqb n m (λ q. eqb-false m n e (sym q))

-- a text that is due behind an argument does not stand there: nothing of it does, or its first bracket and perhaps more
record Lost (x : Name) (w y : List ℕ) : Type 0 where
  none_stands : (common w y ≡ 0) → behind (wrong x) y ≡ cond (eqb 0 (length y)) 36 (wrong x)
  some_stands : (common w y ≡ 0 → ⊥) → behind (wrong x) y ≡ 36

lost : (x : Name) (w y : List ℕ) → Lost x (code "]" ∷ w) y
unfolding common behind
lost x w [] = record { none_stands = λ _. refl; some_stands = λ f. absurd (f refl) }
lost x w (c ∷ y) = go (eqb (code "]") c) refl where
  go : (t : Bool) → eqb (code "]") c ≡ t → Lost x (code "]" ∷ w) (c ∷ y)
  go true e = record { none_stands = λ q. absurd (let z : ◌≡◌ {A = ℕ} (suc (common w y)) 0 = rw e at q in omega arith); some_stands = λ _. rw (eqb-turn (code "]") c true e) }
  go false e = record { none_stands = λ _. rw (eqb-turn (code "]") c false e, ne_eqb 0 (suc (length y)) (λ q. omega arith)); some_stands = λ f. absurd (f (rw e)) }

-- a part of s that is known, and what follows it
module _ (b l : ℕ) (s : List ℕ) (p : List ℕ) (e : ℕ) (size : length p ≡ e) (known : s ≡ p ++ drop e s) (n : Name) (formed : Formed (suc l) n) where
  long-enough : e + length (drop e s) ≡ length s
  long-enough = ap (λ (k : ℕ). k + length (drop e s)) (sym size) ∙ sym (ap length known ∙ length-append p (drop e s))

  ends : (j : ℕ) → eqb (e + j) (length s) ≡ eqb j (length (drop e s))
  ends j = ap (eqb (e + j)) (sym long-enough) ∙ eqb_plus e j (length (drop e s))

  begins : (x : List ℕ) (j : ℕ) → text n ≡ p ++ x → take j x ≡ take j (drop e s) → take (e + j) (text n) ≡ take (e + j) s
  begins x j t q =
      let z : take (length p + j) (p ++ x) ≡ take (length p + j) (p ++ drop e s) = take_same p x (drop e s) j q in
      ap (take (e + j)) t ∙ ap (λ (k : ℕ). take (k + j) (p ++ x)) (sym size) ∙ z ∙ ap (λ (k : ℕ). take (k + j) (p ++ drop e s)) size ∙ ap (take (e + j)) (sym known)

  -- a fault of an argument that starts behind it
  inner : {l' m j : ℕ} (f : Piece (suc b) l' (drop e s) m j) (r : List ℕ) → text n ≡ p ++ write f.n r → e + j ≤ long n → Place (suc f.level) f.part n (e + j) → Leftmost b n m (e + j) → Piece b l s m (e + j)
  inner {j = j} f r t h w v =
      let q : take j (write f.n r) ≡ take j (text f.n) = ap (take j) (sym (write-append f.n [] r)) ∙ take-append-le j (text f.n) r (omega (arith, f.reach, length-write f.n [])) in
      let z : suc b + f.level ≡ b + suc f.level = omega arith in
      record {
        inside = omega (arith, f.inside, long-enough);
        n = n;
        formed = formed;
        reach = h;
        before = begins (write f.n r) j t (q ∙ f.before);
        level = suc f.level;
        part = f.part;
        place = w;
        is = f.is ∙ rw (z, ends j);
        leftmost = v;
      }

  -- what is due behind it does not stand there, or only in part
  due : (w u : List ℕ) → text n ≡ p ++ (w ++ u) → starts w (drop e s) ≡ false → {level m : ℕ} {part : Part} → e + common w (drop e s) ≤ long n
      → Place level part n (e + common w (drop e s)) → m ≡ fault_number (b + level) part (eqb (common w (drop e s)) (length (drop e s))) → Leftmost b n m (e + common w (drop e s))
      → Piece b l s m (e + common w (drop e s))
  due w u t f {level} {part = part} h place is v =
      let j = common w (drop e s) in
      let q : take j (w ++ u) ≡ take j (drop e s) = take-append-le j w u (common_le w (drop e s)) ∙ sym (common_is w (drop e s)) in
      record {
        inside = omega (arith, common-fits w (drop e s), long-enough);
        n = n;
        formed = formed;
        reach = h;
        before = begins (w ++ u) j t q;
        level = level;
        part = part;
        place = place;
        is = is ∙ rw (ends j);
        leftmost = v;
      }

  -- a fault right behind it
  right_behind : (x : List ℕ) → text n ≡ p ++ x → {level m : ℕ} {part : Part} → e ≤ long n → Place level part n e → m ≡ fault_number (b + level) part (eqb 0 (length (drop e s))) → Leftmost b n m e → Piece b l s m e
  right_behind x t {level} {part = part} h place is v =
      let z : e + 0 ≡ e = omega arith in
      record {
        inside = omega (arith, long-enough);
        n = n;
        formed = formed;
        reach = h;
        before = subst (λ (k : ℕ). take k (text n) ≡ take k s) z (begins x 0 t refl);
        level = level;
        part = part;
        place = place;
        is = is ∙ rw (sym (ends 0) ∙ ap (λ (k : ℕ). eqb k (length s)) z);
        leftmost = v;
      }

  -- a text that begins with a bracket is due behind the argument x, and does not stand there
  lost_piece : (w u : List ℕ) (x : Name) → text n ≡ p ++ ((code "]" ∷ w) ++ u) → starts (code "]" ∷ w) (drop e s) ≡ false → e + suc (length w) ≤ long n → Place 2 (last x).part n e
      → ((c : ℕ) → 1 ≤ c → c ≤ length w → Place 1 brackets n (e + c)) → ((r j : ℕ) → b + r ≡ 9 → Place r head_start n j → e + suc (length w) ≤ j)
      → Piece b l s (behind (wrong x) (drop e s)) (e + common (code "]" ∷ w) (drop e s))
  unfolding fault_number
  lost_piece w u x t f h inner_end bracket further = go (eqb (common (code "]" ∷ w) (drop e s)) 0) refl where
    y : List ℕ
    y = drop e s

    c : ℕ
    c = common (code "]" ∷ w) y

    less : c < suc (length w)
    less = common-part (code "]" ∷ w) y f

    leftmost : Leftmost b n (behind (wrong x) y) (e + c)
    leftmost r j q v = inl (omega (arith, less, further r j q v))

    go : (t : Bool) → eqb c 0 ≡ t → Piece b l s (behind (wrong x) y) (e + c)
    go true q =
        let z : c ≡ 0 = eqb-true c 0 q in
        let v : e ≡ e + c = omega arith in
        due (code "]" ∷ w) u t f (omega (arith, less)) (subst (λ (k : ℕ). Place 2 (last x).part n k) v inner_end)
        ((lost x w y).none_stands z ∙ sym ((last x).is (b + 2) (eqb 0 (length y))) ∙ ap (λ (k : ℕ). fault_number (b + 2) (last x).part (eqb k (length y))) (sym z)) leftmost
    go false q =
        let z : c ≡ 0 → ⊥ = eqb-false c 0 q in
        due (code "]" ∷ w) u t f (omega (arith, less)) (bracket c (omega arith) (omega (arith, less))) ((lost x w y).some_stands z) leftmost

-- a longer text stands only where its beginning does
shorter : (t u s : List ℕ) → starts (t ++ u) s ≡ true → starts t s ≡ true
shorter t u s e = go (starts t s) refl where
  go : (x : Bool) → starts t s ≡ x → starts t s ≡ true
  go true q = q
  go false q = let z : false ≡ true = sym (starts-longer t u s q) ∙ e in differ cc

or_true : (a : Bool) → (a || true) ≡ true
or_true true = refl
or_true false = refl

-- further on by a
shifted : {i j k m : ℕ} (a : ℕ) → k ≡ a + j → (i < j) ⊎ ((i ≡ j) × (m ≡ 38)) → (a + i < k) ⊎ ((a + i ≡ k) × (m ≡ 38))
shifted a e (inl x) = inl (omega arith)
shifted a e (inr x) = inr (omega (arith, x.0), x.1)

-- after a head of h bytes
module _ (b l at : ℕ) (levels : b + suc l ≡ 8) (s : List ℕ) (h : ℕ) (head_is : NameHead (take h s)) (size : length (take h s) ≡ h) where
  -- the head and a text behind it
  abbrev with : List ℕ → List ℕ
  with w = take h s ++ w

  with_size : (w : List ℕ) → length (with w) ≡ h + length w
  with_size w = length-append (take h s) w ∙ ap (λ (k : ℕ). k + length w) size

  with_known : (w : List ℕ) → starts w (drop h s) ≡ true → s ≡ with w ++ drop (h + length w) s
  with_known w q =
      sym (take-append-drop h s) ∙ ap (λ (l : List ℕ). take h s ++ l) (starts_is w (drop h s) q ∙ ap (λ (l : List ℕ). w ++ l) (drop-drop (length w) h s))
      ∙ sym (append_assoc (take h s) w (drop (h + length w) s))

  -- names that begin with the head
  one_bare : Name
  one_bare = one (take h s) bare none

  two_bare : Name
  two_bare = two (take h s) bare bare none

  one_formed : Formed (suc (suc l)) one_bare
  unfolding Formed Tailed one_bare
  one_formed = (head_is, bare_formed l, tt)

  two_formed : Formed (suc (suc l)) two_bare
  unfolding Formed Tailed two_bare
  two_formed = (head_is, bare_formed l, bare_formed l, tt)

  -- where a level-9 part of such a name starts
  not_here : {r j : ℕ} {A : Type 0} → b + r ≡ 9 → InSimple r j → A
  not_here q x = absurd (omega (arith, x.level))

  -- an argument that was read has no level-9 part
  not_in : {a : Name} {p r j : ℕ} {A : Type 0} → b + r ≡ 9 → Formed l a → InArgument p a r j → A
  not_in {a} q f x = absurd (omega (arith, x.level, place-level l a f x.r' x.j' x.place))

  -- a bare one starts with one at most
  in_bare : {p r j : ℕ} → InArgument p bare r j → j ≡ p
  unfolding bare
  in_bare x = omega (arith, x.there, (in_simple x.place).first_byte)

  one_leftmost : (number c : ℕ) → c < 4 → Leftmost b one_bare number (h + c)
  unfolding one_bare
  one_leftmost number c k r j q v = go (in_one v) where
    go : InSimple r j ⊎ InArgument (length (take h s) + 4) bare r j → (h + c < j) ⊎ ((h + c ≡ j) × (number ≡ 38))
    go (inl x) = not_here q x
    go (inr x) = inl (omega (arith, in_bare x, size))

  two_leftmost : (number c : ℕ) → c < 4 → Leftmost b two_bare number (h + c)
  unfolding two_bare
  two_leftmost number c k r j q v = go (in_two v) where
    go : InSimple r j ⊎ (InArgument (length (take h s) + 4) bare r j ⊎ InArgument (length (take h s) + 4 + long bare + 3) bare r j) → (h + c < j) ⊎ ((h + c ≡ j) × (number ≡ 38))
    go (inl x) = not_here q x
    go (inr (inl x)) = inl (omega (arith, in_bare x, size))
    go (inr (inr x)) = inl (omega (arith, in_bare x, size))

  -- a backquote that opens no arguments
  unopened_piece : starts (ascii "`") (drop h s) ≡ true → starts (ascii "`1[[") (drop h s) ≡ false → starts (ascii "`2[[") (drop h s) ≡ false
      → Piece b (suc l) s (unopened_number (drop h s)) (h + unopened_at (drop h s))
  unfolding unopened_number unopened_at fault_number one_bare two_bare bare write long long_tail write_tail ascii
  unopened_piece q p₁ p₂ = go (starts (ascii "`1[") y) (starts (ascii "`2[") y) (starts (ascii "`1") y) (starts (ascii "`2") y) refl refl refl refl where
    y : List ℕ
    y = drop h s

    go : (c₁ c₂ d₁ d₂ : Bool) → starts (ascii "`1[") y ≡ c₁ → starts (ascii "`2[") y ≡ c₂ → starts (ascii "`1") y ≡ d₁ → starts (ascii "`2") y ≡ d₂
        → Piece b (suc l) s (cond (d₁ || d₂) 36 35) (h + cond (c₁ || c₂) 3 (cond (d₁ || d₂) 2 1))
    go true c₂ true d₂ e₁ e₂ f₁ f₂ =
        right_behind b (suc l) s (with (ascii "`1[")) (h + 3) (with_size (ascii "`1[")) (with_known (ascii "`1[") e₁) one_bare one_formed (ascii "[A]]")
        (sym (append_assoc (take h s) (ascii "`1[") (ascii "[A]]"))) (omega (arith, size)) (opens_1 {j = 3} (omega arith) (omega arith) (omega (arith, size))) refl (one_leftmost 36 3 (omega arith))
    go true c₂ false d₂ e₁ e₂ f₁ f₂ = let z : false ≡ true = sym f₁ ∙ shorter (ascii "`1") (ascii "[") y e₁ in differ cc
    go false true d₁ true e₁ e₂ f₁ f₂ =
        rw (or_true d₁) (right_behind b (suc l) s (with (ascii "`2[")) (h + 3) (with_size (ascii "`2[")) (with_known (ascii "`2[") e₂) two_bare two_formed (ascii "[A],[A]]")
        (sym (append_assoc (take h s) (ascii "`2[") (ascii "[A],[A]]"))) (omega (arith, size)) (opens_2 {j = 3} (omega arith) (omega arith) (omega (arith, size))) refl (two_leftmost 36 3 (omega arith)))
    go false true d₁ false e₁ e₂ f₁ f₂ = let z : false ≡ true = sym f₂ ∙ shorter (ascii "`2") (ascii "[") y e₂ in differ cc
    go false false true d₂ e₁ e₂ f₁ f₂ =
        right_behind b (suc l) s (with (ascii "`1")) (h + 2) (with_size (ascii "`1")) (with_known (ascii "`1") f₁) one_bare one_formed (ascii "[[A]]")
        (sym (append_assoc (take h s) (ascii "`1") (ascii "[[A]]"))) (omega (arith, size)) (opens_1 {j = 2} (omega arith) (omega arith) (omega (arith, size))) refl (one_leftmost 36 2 (omega arith))
    go false false false true e₁ e₂ f₁ f₂ =
        right_behind b (suc l) s (with (ascii "`2")) (h + 2) (with_size (ascii "`2")) (with_known (ascii "`2") f₂) two_bare two_formed (ascii "[[A],[A]]")
        (sym (append_assoc (take h s) (ascii "`2") (ascii "[[A],[A]]"))) (omega (arith, size)) (opens_2 {j = 2} (omega arith) (omega arith) (omega (arith, size))) refl (two_leftmost 36 2 (omega arith))
    go false false false false e₁ e₂ f₁ f₂ =
        right_behind b (suc l) s (with (ascii "`")) (h + 1) (with_size (ascii "`")) (with_known (ascii "`") q) one_bare one_formed (ascii "1[[A]]")
        (sym (append_assoc (take h s) (ascii "`") (ascii "1[[A]]"))) (omega (arith, size)) (digit_1 (omega (arith, size))) refl (one_leftmost 35 1 (omega arith))

  module _ (below : ℕ → List ℕ → Read) (faulty_below : (p : ℕ) (r : List ℕ) → Faulty p (Piece (suc b) l r) (below p r)) (sound_below : (p : ℕ) (r : List ℕ) → Ok (NameStands l r) (below p r)) where
    -- one argument
    module _ (q : starts (ascii "`1[[") (drop h s) ≡ true) where
      only_known : s ≡ with (ascii "`1[[") ++ drop (h + 4) s
      unfolding ascii
      only_known = with_known (ascii "`1[[") q

      only_size : length (with (ascii "`1[[")) ≡ h + 4
      unfolding ascii
      only_size = with_size (ascii "`1[[")

      in_only : {m i r j : ℕ} (f : Piece (suc b) l (drop (h + 4) s) m i) → InSimple r j ⊎ InArgument (length (take h s) + 4) f.n r j → b + r ≡ 9 → (h + 4 + i < j) ⊎ ((h + 4 + i ≡ j) × (m ≡ 38))
      in_only f (inl x) q = not_here q x
      in_only {m} {i} {j = j} f (inr x) q = shifted (h + 4) (omega (arith, x.there, size)) (f.leftmost x.r' x.j' (omega (arith, x.level)) x.place)

      -- the fault of the argument
      only_inner : {m i : ℕ} → Piece (suc b) l (drop (h + 4) s) m i → Piece b (suc l) s m (h + 4 + i)
      unfolding Formed Tailed write write_tail long long_tail
      only_inner f =
          inner b (suc l) s (with (ascii "`1[[")) (h + 4) only_size only_known (one (take h s) f.n none) (head_is, f.formed, tt) f (ascii "]]" ++ [])
          (sym (append_assoc (take h s) (ascii "`1[[") (write f.n (ascii "]]" ++ [])))) (omega (arith, f.reach, size)) (only (omega (arith, size)) f.place)
          (λ r j q v. in_only f (in_one v) q)

      in_read : {r j : ℕ} {A : Type 0} (x : Name) → Formed l x → InSimple r j ⊎ InArgument (length (take h s) + 4) x r j → b + r ≡ 9 → A
      in_read x o (inl y) q = not_here q y
      in_read x o (inr y) q = not_in q o y

      -- the brackets behind it
      only_closed : (x : Name) (k : ℕ) → NameStands l (drop (h + 4) s) x k → Faulty at (Piece b (suc l) s) (closed at (one (take h s) x) x s (h + 4 + k))
      unfolding closed Formed Tailed write write_tail long long_tail ascii
      only_closed x k o =
          by_test (starts (ascii "]]") (drop (h + 4 + k) s)) (λ _. no_fault) (λ f.
          let p = with (ascii "`1[[") ++ text x in
          let z : length p ≡ h + 4 + k = length-append (with (ascii "`1[[")) (text x) ∙ omega (arith, only_size, length-write x [], o.2) in
          let w : s ≡ p ++ drop (h + 4 + k) s
          = only_known ∙ ap (λ (l : List ℕ). with (ascii "`1[[") ++ l) (o.1 ∙ sym (write-append x [] (drop k (drop (h + 4) s))) ∙ ap (λ (l : List ℕ). text x ++ l) (drop-drop k (h + 4) s)) ∙ sym (append_assoc (with (ascii "`1[[")) (text x) (drop (h + 4 + k) s)) in
          let t : text (one (take h s) x none) ≡ p ++ ((code "]" ∷ ascii "]") ++ [])
          = sym (append_assoc (take h s) (ascii "`1[[") (write x (ascii "]]"))) ∙ ap (λ (l : List ℕ). with (ascii "`1[[") ++ l) (sym (write-append x [] (ascii "]]"))) ∙ sym (append_assoc (with (ascii "`1[[")) (text x) (ascii "]]")) in
          a_fault (behind (wrong x) (drop (h + 4 + k) s)) (h + 4 + k + common (ascii "]]") (drop (h + 4 + k) s)) _ refl
          (lost_piece b (suc l) s p (h + 4 + k) z w (one (take h s) x none) (head_is, formed_up l x o.0, tt) (ascii "]") [] x t f (omega (arith, size, o.2))
          (only (omega (arith, size, o.2)) (last x).place) (λ c i j. closes_1 (omega (arith, size, o.2)))
          (λ r j q v. in_read x o.0 (in_one v) q)))

      only_faulty : (r : Read) → below (at + (h + 4)) (drop (h + 4) s) ≡ r → Faulty at (Piece b (suc l) s) (on_only at s h (h + 4) r)
      unfolding on_only
      only_faulty (broken m p hs) e =
          let g = (faulty_below (at + (h + 4)) (drop (h + 4) s)).got e in
          a_fault m (h + 4 + g.0) p (omega (arith, g.1)) (only_inner g.2)
      only_faulty (name x k) e = only_closed x k ((sound_below (at + (h + 4)) (drop (h + 4) s)).got e)

    -- two arguments
    module _ (q : starts (ascii "`2[[") (drop h s) ≡ true) where
      first_known : s ≡ with (ascii "`2[[") ++ drop (h + 4) s
      unfolding ascii
      first_known = with_known (ascii "`2[[") q

      first_size : length (with (ascii "`2[[")) ≡ h + 4
      unfolding ascii
      first_size = with_size (ascii "`2[[")

      in_first : {m i r j : ℕ} (f : Piece (suc b) l (drop (h + 4) s) m i) → InSimple r j ⊎ (InArgument (length (take h s) + 4) f.n r j ⊎ InArgument (length (take h s) + 4 + long f.n + 3) bare r j)
          → b + r ≡ 9 → (h + 4 + i < j) ⊎ ((h + 4 + i ≡ j) × (m ≡ 38))
      in_first f (inl x) q = not_here q x
      in_first f (inr (inl x)) q = shifted (h + 4) (omega (arith, x.there, size)) (f.leftmost x.r' x.j' (omega (arith, x.level)) x.place)
      in_first f (inr (inr x)) q = inl (omega (arith, in_bare x, f.reach, size))

      -- the fault of the first
      first_inner : {m i : ℕ} → Piece (suc b) l (drop (h + 4) s) m i → Piece b (suc l) s m (h + 4 + i)
      unfolding Formed Tailed write write_tail long long_tail
      first_inner f =
          inner b (suc l) s (with (ascii "`2[[")) (h + 4) first_size first_known (two (take h s) f.n bare none) (head_is, f.formed, bare_formed l, tt) f (ascii "],[" ++ write bare (ascii "]]" ++ []))
          (sym (append_assoc (take h s) (ascii "`2[[") (write f.n (ascii "],[" ++ write bare (ascii "]]" ++ []))))) (omega (arith, f.reach, size)) (first (omega (arith, size)) f.place)
          (λ r j q v. in_first f (in_two v) q)

      -- the first was read
      module _ (x : Name) (k : ℕ) (o : NameStands l (drop (h + 4) s) x k) where
        -- all up to its end
        abbrev read : List ℕ
        read = with (ascii "`2[[") ++ text x

        read_size : length read ≡ h + 4 + k
        read_size = length-append (with (ascii "`2[[")) (text x) ∙ omega (arith, first_size, length-write x [], o.2)

        read_known : s ≡ read ++ drop (h + 4 + k) s
        read_known =
            first_known ∙ ap (λ (l : List ℕ). with (ascii "`2[[") ++ l) (o.1 ∙ sym (write-append x [] (drop k (drop (h + 4) s))) ∙ ap (λ (l : List ℕ). text x ++ l) (drop-drop k (h + 4) s))
            ∙ sym (append_assoc (with (ascii "`2[[")) (text x) (drop (h + 4 + k) s))

        -- a name of these two arguments
        both_text : (y : Name) → text (two (take h s) x y none) ≡ read ++ (ascii "],[" ++ write y (ascii "]]"))
        unfolding write write_tail ascii
        both_text y =
            let r = ascii "],[" ++ write y (ascii "]]") in
            sym (append_assoc (take h s) (ascii "`2[[") (write x r)) ∙ ap (λ (l : List ℕ). with (ascii "`2[[") ++ l) (sym (write-append x [] r)) ∙ sym (append_assoc (with (ascii "`2[[")) (text x) r)

        in_comma : {r j : ℕ} → InSimple r j ⊎ (InArgument (length (take h s) + 4) x r j ⊎ InArgument (length (take h s) + 4 + long x + 3) bare r j) → b + r ≡ 9 → h + 4 + k + 3 ≤ j
        in_comma (inl y) q = not_here q y
        in_comma (inr (inl y)) q = not_in q o.0 y
        in_comma (inr (inr y)) q = omega (arith, in_bare y, size, o.2)

        -- what is due behind the first
        comma_piece : starts (ascii "],[") (drop (h + 4 + k) s) ≡ false → Piece b (suc l) s (behind (wrong x) (drop (h + 4 + k) s)) (h + 4 + k + common (ascii "],[") (drop (h + 4 + k) s))
        unfolding Formed Tailed long long_tail ascii
        comma_piece f =
            lost_piece b (suc l) s read (h + 4 + k) read_size read_known (two (take h s) x bare none) (head_is, formed_up l x o.0, bare_formed l, tt) (ascii ",[") (write bare (ascii "]]")) x (both_text bare) f
            (omega (arith, size, o.2)) (first (omega (arith, size, o.2)) (last x).place) (λ c i j. divides {j = c} i j (omega (arith, size, o.2)))
            (λ r j q v. in_comma (in_two v) q)

        -- the comma stands
        module _ (c : starts (ascii "],[") (drop (h + 4 + k) s) ≡ true) where
          abbrev next : ℕ
          next = h + 4 + k + 3

          abbrev upto : List ℕ
          upto = read ++ ascii "],["

          upto_size : length upto ≡ next
          unfolding ascii
          upto_size = length-append read (ascii "],[") ∙ omega (arith, read_size)

          upto_known : s ≡ upto ++ drop next s
          unfolding ascii
          upto_known =
              read_known ∙ ap (λ (l : List ℕ). read ++ l) (starts_is (ascii "],[") (drop (h + 4 + k) s) c ∙ ap (λ (l : List ℕ). ascii "],[" ++ l) (drop-drop 3 (h + 4 + k) s))
              ∙ sym (append_assoc read (ascii "],[") (drop next s))

          upto_text : (y : Name) → text (two (take h s) x y none) ≡ upto ++ write y (ascii "]]")
          upto_text y = both_text y ∙ sym (append_assoc read (ascii "],[") (write y (ascii "]]")))

          in_second : {m i r j : ℕ} (f : Piece (suc b) l (drop next s) m i) → InSimple r j ⊎ (InArgument (length (take h s) + 4) x r j ⊎ InArgument (length (take h s) + 4 + long x + 3) f.n r j)
              → b + r ≡ 9 → (next + i < j) ⊎ ((next + i ≡ j) × (m ≡ 38))
          in_second f (inl y) q = not_here q y
          in_second f (inr (inl y)) q = not_in q o.0 y
          in_second f (inr (inr y)) q = shifted next (omega (arith, y.there, size, o.2)) (f.leftmost y.r' y.j' (omega (arith, y.level)) y.place)

          -- the fault of the second
          second_inner : {m i : ℕ} → Piece (suc b) l (drop next s) m i → Piece b (suc l) s m (next + i)
          unfolding Formed Tailed long long_tail
          second_inner f =
              inner b (suc l) s upto next upto_size upto_known (two (take h s) x f.n none) (head_is, formed_up l x o.0, f.formed, tt) f (ascii "]]") (upto_text f.n)
              (omega (arith, f.reach, size, o.2)) (second (omega (arith, size, o.2)) f.place)
              (λ r j q v. in_second f (in_two v) q)

          in_both : {r j : ℕ} {A : Type 0} (y : Name) → Formed l y → InSimple r j ⊎ (InArgument (length (take h s) + 4) x r j ⊎ InArgument (length (take h s) + 4 + long x + 3) y r j) → b + r ≡ 9 → A
          in_both y v (inl z) q = not_here q z
          in_both y v (inr (inl z)) q = not_in q o.0 z
          in_both y v (inr (inr z)) q = not_in q v z

          -- the brackets behind it
          second_closed : (y : Name) (m : ℕ) → NameStands l (drop next s) y m → Faulty at (Piece b (suc l) s) (closed at (two (take h s) x y) y s (next + m))
          unfolding closed Formed Tailed long long_tail ascii
          second_closed y m v =
              by_test (starts (ascii "]]") (drop (next + m) s)) (λ _. no_fault) (λ f.
              let p = upto ++ text y in
              let z : length p ≡ next + m = length-append upto (text y) ∙ omega (arith, upto_size, length-write y [], v.2) in
              let w : s ≡ p ++ drop (next + m) s
              = upto_known ∙ ap (λ (l : List ℕ). upto ++ l) (v.1 ∙ sym (write-append y [] (drop m (drop next s))) ∙ ap (λ (l : List ℕ). text y ++ l) (drop-drop m next s)) ∙ sym (append_assoc upto (text y) (drop (next + m) s)) in
              let t : text (two (take h s) x y none) ≡ p ++ ((code "]" ∷ ascii "]") ++ []) = upto_text y ∙ ap (λ (l : List ℕ). upto ++ l) (sym (write-append y [] (ascii "]]"))) ∙ sym (append_assoc upto (text y) (ascii "]]")) in
              a_fault (behind (wrong y) (drop (next + m) s)) (next + m + common (ascii "]]") (drop (next + m) s)) _ refl
              (lost_piece b (suc l) s p (next + m) z w (two (take h s) x y none) (head_is, formed_up l x o.0, formed_up l y v.0, tt) (ascii "]") [] y t f (omega (arith, size, o.2, v.2))
              (second (omega (arith, size, o.2, v.2)) (last y).place) (λ c i j. closes_2 (omega (arith, size, o.2, v.2)))
              (λ r j q z. in_both y v.0 (in_two z) q)))

          second_faulty : (r : Read) → below (at + next) (drop next s) ≡ r → Faulty at (Piece b (suc l) s) (on_second at s h (h + 4) x next r)
          unfolding on_second
          second_faulty (broken m p hs) e =
              let g = (faulty_below (at + next) (drop next s)).got e in
              a_fault m (next + g.0) p (omega (arith, g.1)) (second_inner g.2)
          second_faulty (name y m) e = second_closed y m ((sound_below (at + next) (drop next s)).got e)

      first_faulty : (r : Read) → below (at + (h + 4)) (drop (h + 4) s) ≡ r → Faulty at (Piece b (suc l) s) (on_first below at s h (h + 4) r)
      unfolding on_first
      first_faulty (broken m p hs) e =
          let g = (faulty_below (at + (h + 4)) (drop (h + 4) s)).got e in
          a_fault m (h + 4 + g.0) p (omega (arith, g.1)) (first_inner g.2)
      first_faulty (name x k) e =
          let o = (sound_below (at + (h + 4)) (drop (h + 4) s)).got e in
          by_test (starts (ascii "],[") (drop (h + 4 + k) s)) (λ c. second_faulty x k o c (below (at + (h + 4 + k + 3)) (drop (h + 4 + k + 3) s)) refl)
          (λ f. a_fault (behind (wrong x) (drop (h + 4 + k) s)) (h + 4 + k + common (ascii "],[") (drop (h + 4 + k) s)) _ refl (comma_piece x k o f))

    -- by what follows the head
    after_faulty : (b₁ b₂ b₃ : Bool) → starts (ascii "`1[[") (drop h s) ≡ b₁ → starts (ascii "`2[[") (drop h s) ≡ b₂ → starts (ascii "`") (drop h s) ≡ b₃
        → Faulty at (Piece b (suc l) s) (after_head below at s h (cond b₁ 1 (cond b₂ 2 (cond b₃ 3 0))))
    unfolding after_head
    after_faulty true b₂ b₃ e₁ e₂ e₃ = only_faulty e₁ (below (at + (h + 4)) (drop (h + 4) s)) refl
    after_faulty false true b₃ e₁ e₂ e₃ = first_faulty e₂ (below (at + (h + 4)) (drop (h + 4) s)) refl
    after_faulty false false true e₁ e₂ e₃ = a_fault (unopened_number (drop h s)) (h + unopened_at (drop h s)) _ refl (unopened_piece e₃ e₁ e₂)
    after_faulty false false false e₁ e₂ e₃ = no_fault

-- a head that is empty
empty_piece : (b l : ℕ) (s : List ℕ) (number : ℕ) → number ≡ cond (eqb (b + 1) 9) 38 33 → Piece b l s number 0
unfolding fault_number bare
empty_piece b l s number e = record {
  inside = omega arith;
  n = bare;
  formed = bare_formed l;
  reach = omega arith;
  before = refl;
  level = 1;
  part = head_start;
  place = start;
  is = e;
  leftmost = λ r j q v.
      let x = in_simple v in
      let z : b + 1 ≡ 9 = omega (arith, x.level) in
      inr (sym x.first_byte, e ∙ rw z);
}

head-faulty : (b l at : ℕ) (s : List ℕ) (below : ℕ → List ℕ → Read) → ((p : ℕ) (r : List ℕ) → Faulty p (Piece (suc b) l r) (below p r)) → ((p : ℕ) (r : List ℕ) → Ok (NameStands l r) (below p r))
    → b + suc l ≡ 8 → (h : ℕ) → h ≡ span head_byte s → Faulty at (Piece b (suc l) s) (headed below at s h)
unfolding headed opening
head-faulty b l at s below f o v zero e = a_fault 33 0 at (omega arith) (empty_piece b (suc l) s 33 (rw (ne_eqb (b + 1) 9 (λ q. omega arith))))
head-faulty b l at s below f o v (suc h) e =
    let z : length (take (suc h) s) ≡ suc h = length-take-le (suc h) s (omega (arith, span_le head_byte s)) in
    let w : all head_byte (take (suc h) s) ≡ true = rw e (span_is head_byte s) in
    let some_byte : take (suc h) s ≡ [] → ⊥ = λ q. omega (arith, ap length q) in
    let y = drop (suc h) s in
    after_faulty b l at v s (suc h) (record { some = some_byte; bytes = w }) z below f o (starts (ascii "`1[[") y) (starts (ascii "`2[[") y) (starts (ascii "`") y) refl refl refl

faulty : (l b at : ℕ) (s : List ℕ) → b + l ≡ 8 → Faulty at (Piece b l s) (name_in l at s)
unfolding name_in
faulty zero b at s v = a_fault 38 0 at (omega arith) (empty_piece b 0 s 38 (let z : b + 1 ≡ 9 = omega arith in rw z))
faulty (suc l) b at s v = head-faulty b l at s (name_in l) (λ p r. faulty l (suc b) p r (omega arith)) (sound l) v (span head_byte s) refl

-- nothing else stands behind a whole name
more_piece : (s : List ℕ) (n : Name) (k : ℕ) → NameStands 8 s n k → (k ≡ length s → ⊥) → Piece 0 8 s (wrong n) k
more_piece s n k o f =
    let w : s ≡ text n ++ drop k s = o.1 ∙ sym (write-append n [] (drop k s)) in
    let z : length (text n) ≡ k = omega (arith, length-write n [], o.2) in
    let l : k < length s = omega (arith, ap length w, length-append (text n) (drop k s)) in
    let e : eqb 0 (length (drop k s)) ≡ false = ne_eqb 0 (length (drop k s)) (λ q. omega (arith, length-drop k s)) in
    right_behind 0 8 s (text n) k z w n (formed_up 8 n o.0) [] (sym (append-nil (text n))) (omega (arith, o.2)) (subst (λ (j : ℕ). Place 1 (last n).part n j) (sym o.2) (last n).place)
    (sym ((last n).is (0 + 1) (eqb 0 (length (drop k s))) ∙ rw e)) (λ r j q v. absurd (omega (arith, place-level 8 n o.0 r j v)))

-- no name of any number of levels begins with the bytes up to the place and the one that stands there, or ends where they do
module _ (at : ℕ) (s : List ℕ) (i levels : ℕ) (m : Name) (f : Formed levels m) (g : take (suc i) (text m) ≡ take (suc i) s) where
  read_alike : Reaches at (name_in 8 at s) i → Shallow (name_in 8 at s) → name_in 8 at s ≡ name m (long m)
  read_alike r w =
      let z : levels + 8 ≡ 8 + levels = omega arith in
      let c : name_in (8 + levels) at (text m) ≡ name m (long m) = complete (8 + levels) at m (formed_more 8 levels m f) end in
      sym (same_read 8 levels at s (text m) i r w (sym g)) ∙ c

after_as : (at : ℕ) (s : List ℕ) (number i : ℕ) (hs : List Heading) → (r : Read) → name_in 8 at s ≡ r → whole at s r ≡ broken number (at + i) hs
    → (number ≡ 38 → ⊥) → (levels : ℕ) (m : Name) → Formed levels m → take (suc i) (text m) ≡ take (suc i) s → ⊥
unfolding whole
after_as at s number i hs (broken k p us) q e d levels m f g =
    let z : k ≡ number = cc in
    let y : p ≡ at + i = cc in
    let c = read_alike at s i levels m f g (rw q y) (rw q (λ j. d (sym z ∙ j))) in
    differ cc
after_as at s number i hs (name n k) q e d levels m f g = go (eqb k (length s)) refl e where
  go : (t : Bool) → eqb k (length s) ≡ t → cond t (name n k) (broken (wrong n) (at + k) (headings at n)) ≡ broken number (at + i) hs → ⊥
  go true t e = differ cc
  go false t e =
      let y : at + k ≡ at + i = cc in
      let c = read_alike at s i levels m f g (rw q (let z : k ≡ i = omega arith in z)) (rw q tt) in
      let v : k ≡ long m = cc in
      let o = (sound 8 at s).got q in
      let l : k < length s = omega (arith, eqb-false k (length s) t, ap length o.1, length-write n (drop k s), o.2) in
      omega (arith, ap length g, length-take (suc i) (text m), length-take (suc i) s, length-write m [])

-- 02, Req 04: what the parser answers of a name that is broken is a fault of it in 02's words, its place counted from where the name starts
pub faults : (at : ℕ) (s : List ℕ) (number place : ℕ) (hs : List Heading) → name_of at s ≡ broken number place hs → (i : ℕ) × (place ≡ at + i) × Fault s number i
unfolding name_of whole
faults at s number place hs e = go (name_in 8 at s) refl e where
  as_fault : (i : ℕ) → place ≡ at + i → Piece 0 8 s number i → Fault s number i
  as_fault i q f = record {
    inside = f.inside;
    n = f.n;
    formed = f.formed;
    before = f.before;
    level = f.level;
    part = f.part;
    place = f.place;
    is = f.is ∙ ap (λ (k : ℕ). fault_number k f.part (eqb i (length s))) (let z : 0 + f.level ≡ f.level = omega arith in z);
    leftmost = λ j w. f.leftmost 9 j refl w;
    after = after_as at s number i hs (name_in 8 at s) refl (e ∙ ap (λ (k : ℕ). broken number k hs) q);
  }

  go : (r : Read) → name_in 8 at s ≡ r → whole at s r ≡ broken number place hs → (i : ℕ) × (place ≡ at + i) × Fault s number i
  go (broken m p us) q w =
      let x : m ≡ number = cc in
      let y : p ≡ place = cc in
      let g = (faulty 8 0 at s refl).got q in
      let z : place ≡ at + g.0 = sym y ∙ g.1 in
      (g.0, z, as_fault g.0 z (subst (λ (k : ℕ). Piece 0 8 s k g.0) x g.2))
  go (name n k) q w = by (eqb k (length s)) refl w where
    by : (t : Bool) → eqb k (length s) ≡ t → cond t (name n k) (broken (wrong n) (at + k) (headings at n)) ≡ broken number place hs → (i : ℕ) × (place ≡ at + i) × Fault s number i
    by true t w = differ cc
    by false t w =
        let x : wrong n ≡ number = cc in
        let y : at + k ≡ place = cc in
        (k, sym y, as_fault k (sym y) (subst (λ (j : ℕ). Piece 0 8 s j k) x (more_piece s n k ((sound 8 at s).got q) (eqb-false k (length s) t))))

-- the numbers of faults are 33 to 38
number_range : (level : ℕ) (part : Part) (ended : Bool) → (33 ≤ fault_number level part ended) × (fault_number level part ended ≤ 38)
unfolding fault_number
number_range level head_start ended = by_level (eqb level 9) where
  by_level : (b : Bool) → (33 ≤ cond b 38 33) × (cond b 38 33 ≤ 38)
  by_level true = (omega arith, omega arith)
  by_level false = (omega arith, omega arith)
number_range level head_end true = (omega arith, omega arith)
number_range level head_end false = (omega arith, omega arith)
number_range level digit ended = (omega arith, omega arith)
number_range level brackets ended = (omega arith, omega arith)
number_range level tail_end_lem true = (omega arith, omega arith)
number_range level tail_end_lem false = (omega arith, omega arith)

pub fault_number_lem : {s : List ℕ} {number i : ℕ} → Fault s number i → (33 ≤ number) × (number ≤ 38)
fault_number_lem {s} {i = i} f = rw f.is (number_range f.level f.part (eqb i (length s)))
