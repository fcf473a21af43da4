-- A name that is read stands there, and is lawful. Assumes nothing.
use Rattle.std.specs.Prelude.{◌≡◌, Bool, cond, ℕ, zero, suc, ◌+◌, ◌≤◌, eqb}
use Rattle.std.proofs.Math.Path.{refl, sym, ap}
use Rattle.std.proofs.Common.{◌∙◌, take-append-drop, drop-drop, length-take-le, eqb-true}
use Rattle.std.proofs.Math.Bool.{true, false}
use mathlib.Core.List.{List, [], ◌∷◌, ◌++◌}
use native.Mathlib.Omega.{arith}
use Rattle.std.proofs.Math.ListN.{length, take, drop}
use Rattle.laws.specs.Small.{differ, both}
use Rattle.laws.specs.Ok as law
use Rattle.laws.specs.Ok.{ok_pick}
use Rattle.layout.specs.Text.{ascii}
use Rattle.layout.specs.Name.{Tail, none, some, Name, simple, one, two, write_tail, write, head_byte, tail_byte, all, Tailed, Formed, NameHead, long, long_tail}
use Rattle.names.specs.Parse.{Read, broken, name, span, starts, tail_size, tail_of, ended, closed, opening, on_only, on_second, on_first, after_head, headed, name_in}
use Rattle.names.specs.Heading.{Heading}

-- what holds of a name that was read
abbrev pub Ok : (Name → ℕ → Type 0) → Read → Type 0
Ok P r = law.Ok name P r

pub not_read : {P : Name → ℕ → Type 0} {m p : ℕ} {hs : List Heading} → Ok P (broken m p hs)
not_read = record { got = λ q. differ cc }

pub is_read : {P : Name → ℕ → Type 0} {n : Name} {k : ℕ} → P n k → Ok P (name n k)
is_read {n = n} {k = k} p = record { got = λ {a} {b} q. let i : n ≡ a = cc in let j : k ≡ b = cc in rw (i, j) at p }

pub span_le : (p : ℕ → Bool) (s : List ℕ) → span p s ≤ length s
unfolding span
span_le p [] = omega arith
span_le p (b ∷ s) = elim (p b) as (λ x. cond x (suc (span p s)) 0 ≤ suc (length s)) [ true ↦ omega (arith, span_le p s) | false ↦ omega arith ]

cons_all : (p : ℕ → Bool) (b : ℕ) (s : List ℕ) (x : Bool) → p b ≡ x → all p (take (span p s) s) ≡ true → all p (take (cond x (suc (span p s)) 0) (b ∷ s)) ≡ true
unfolding all
cons_all p b s true e h = rw (e, h)
cons_all p b s false e h = refl

pub span_is : (p : ℕ → Bool) (s : List ℕ) → all p (take (span p s) s) ≡ true
unfolding span all
span_is p [] = refl
span_is p (b ∷ s) = cons_all p b s (p b) refl (span_is p s)

pub starts_is : (w s : List ℕ) → starts w s ≡ true → s ≡ w ++ drop (length w) s
unfolding starts
starts_is [] s e = refl
starts_is (a ∷ w) [] e = differ cc
starts_is (a ∷ w) (b ∷ s) e =
    let q = both (eqb a b) (starts w s) e in
    let i : a ≡ b = eqb-true a b q.0 in
    rw i (ap (λ (l : List ℕ). b ∷ l) (starts_is w s q.1))

abbrev TailRead : List ℕ → Tail → ℕ → Type 0
TailRead s t k = Tailed t × (s ≡ write_tail t (drop k s)) × (k ≡ long_tail t)

tail_of_lem : (s : List ℕ) (b : Bool) → starts (ascii ",") s ≡ b
    → TailRead s (cond b (some (take (span tail_byte (drop 1 s)) (drop 1 s))) none) (cond b (suc (span tail_byte (drop 1 s))) 0)
unfolding Tailed write_tail long_tail ascii
tail_of_lem s false e = (tt, refl, refl)
tail_of_lem s true e =
    let z = span tail_byte (drop 1 s) in
    let q : s ≡ 44 ∷ drop 1 s = starts_is (ascii ",") s e in
    let m : drop z (drop 1 s) ≡ drop (suc z) s = drop-drop z 1 s ∙ ap (λ (k : ℕ). drop k s) (let i : 1 + z ≡ suc z = omega arith in i) in
    let l : length (take z (drop 1 s)) ≡ z = length-take-le z (drop 1 s) (span_le tail_byte (drop 1 s)) in
    (span_is tail_byte (drop 1 s), q ∙ ap (λ (l : List ℕ). 44 ∷ l) (sym (take-append-drop z (drop 1 s)) ∙ ap (λ (l : List ℕ). take z (drop 1 s) ++ l) m), ap suc (sym l))

tail-sound : (s : List ℕ) → TailRead s (tail_of s) (tail_size s)
unfolding tail_of tail_size
tail-sound s = tail_of_lem s (starts (ascii ",") s) refl

module _ {P : Name → ℕ → Type 0} (at : ℕ) (x : Name) (n : Tail → Name) (s : List ℕ) where
  ended_sound : (e : ℕ) → ((t : Tail) (k : ℕ) → Tailed t → drop e s ≡ write_tail t (drop k s) → k ≡ e + long_tail t → P (n t) k) → Ok P (ended n s e)
  ended_sound e f =
      let r = tail-sound (drop e s) in
      let k = tail_size (drop e s) in
      is_read (f (tail_of (drop e s)) (e + k) r.0 (r.1 ∙ ap (write_tail (tail_of (drop e s))) (drop-drop k e s)) (ap (λ (z : ℕ). e + z) r.2))

  closed_sound : (e : ℕ) → ((t : Tail) (k : ℕ) → Tailed t → drop e s ≡ ascii "]]" ++ write_tail t (drop k s) → k ≡ e + 2 + long_tail t → P (n t) k) → Ok P (closed at n x s e)
  unfolding closed ascii
  closed_sound e f =
      ok_pick (starts (ascii "]]") (drop e s))
      (λ b. ended_sound (e + 2) (λ t k ok q m. f t k ok (starts_is (ascii "]]") (drop e s) b ∙ ap (λ (l : List ℕ). ascii "]]" ++ l) (drop-drop 2 e s ∙ q)) m))
      not_read

-- what was read, and where it stands
abbrev pub NameStands : ℕ → List ℕ → Name → ℕ → Type 0
NameStands l s n k = Formed l n × (s ≡ write n (drop k s)) × (k ≡ long n)

-- after a lawful head of h bytes, with arguments of at most l levels
module _ (l at : ℕ) (s : List ℕ) (h : ℕ) (head : NameHead (take h s)) (size : length (take h s) ≡ h) (below : ℕ → List ℕ → Read) (sound_below : (p : ℕ) (r : List ℕ) → Ok (NameStands l r) (below p r)) where
  opened : (w : List ℕ) → starts w (drop h s) ≡ true → s ≡ take h s ++ (w ++ drop (h + length w) s)
  opened w b = sym (take-append-drop h s) ∙ ap (λ (l : List ℕ). take h s ++ l) (starts_is w (drop h s) b ∙ ap (λ (l : List ℕ). w ++ l) (drop-drop (length w) h s))

  simple_sound : Ok (NameStands (suc l) s) (ended (simple (take h s)) s h)
  unfolding Formed write long
  simple_sound =
      ended_sound at (simple (take h s) none) (simple (take h s)) s h
      (λ t j ok q e.
      let i : j ≡ length (take h s) + long_tail t = omega arith in
      ((head, ok), sym (take-append-drop h s) ∙ ap (λ (l : List ℕ). take h s ++ l) q, i))

  only_sound : starts (ascii "`1[[") (drop h s) ≡ true → (r : Read) → Ok (NameStands l (drop (h + 4) s)) r → Ok (NameStands (suc l) s) (on_only at s h (h + 4) r)
  unfolding on_only Formed write long ascii
  only_sound b (broken m p hs) o = not_read
  only_sound b (name x k) o =
      let p = o.got refl in
      closed_sound at x (one (take h s) x) s (h + 4 + k)
      (λ t j ok q m.
      let v : drop (h + 4) s ≡ write x (ascii "]]" ++ write_tail t (drop j s)) = p.1 ∙ ap (write x) (drop-drop k (h + 4) s ∙ q) in
      let i : j ≡ length (take h s) + 4 + long x + 2 + long_tail t = omega (arith, p.2) in
      ((head, p.0, ok), opened (ascii "`1[[") b ∙ ap (λ (l : List ℕ). take h s ++ (ascii "`1[[" ++ l)) v, i))

  second_sound : (x : Name) (k : ℕ) → NameStands l (drop (h + 4) s) x k → starts (ascii "`2[[") (drop h s) ≡ true → starts (ascii "],[") (drop (h + 4 + k) s) ≡ true
      → (r : Read) → Ok (NameStands l (drop (h + 4 + k + 3) s)) r → Ok (NameStands (suc l) s) (on_second at s h (h + 4) x (h + 4 + k + 3) r)
  unfolding on_second Formed write long ascii
  second_sound x k p b c (broken m q hs) o = not_read
  second_sound x k p b c (name y m) r =
      let o = r.got refl in
      closed_sound at y (two (take h s) x y) s (h + 4 + k + 3 + m)
      (λ t j ok q e.
      let r₃ = ascii "]]" ++ write_tail t (drop j s) in
      let v : drop (h + 4 + k + 3) s ≡ write y r₃ = o.1 ∙ ap (write y) (drop-drop m (h + 4 + k + 3) s ∙ q) in
      let u : drop (h + 4 + k) s ≡ ascii "],[" ++ write y r₃ = starts_is (ascii "],[") (drop (h + 4 + k) s) c ∙ ap (λ (l : List ℕ). ascii "],[" ++ l) (drop-drop 3 (h + 4 + k) s ∙ v) in
      let w : drop (h + 4) s ≡ write x (ascii "],[" ++ write y r₃) = p.1 ∙ ap (write x) (drop-drop k (h + 4) s ∙ u) in
      let i : j ≡ length (take h s) + 4 + long x + 3 + long y + 2 + long_tail t = omega (arith, p.2, o.2) in
      ((head, p.0, o.0, ok), opened (ascii "`2[[") b ∙ ap (λ (l : List ℕ). take h s ++ (ascii "`2[[" ++ l)) w, i))

  first_sound : starts (ascii "`2[[") (drop h s) ≡ true → (r : Read) → Ok (NameStands l (drop (h + 4) s)) r → Ok (NameStands (suc l) s) (on_first below at s h (h + 4) r)
  unfolding on_first
  first_sound b (broken m p hs) o = not_read
  first_sound b (name x k) o =
      ok_pick (starts (ascii "],[") (drop (h + 4 + k) s)) (λ c. second_sound x k (o.got refl) b c (below (at + (h + 4 + k + 3)) (drop (h + 4 + k + 3) s)) (sound_below (at + (h + 4 + k + 3)) (drop (h + 4 + k + 3) s))) not_read

  -- by what follows the head
  by_opening : (b₁ b₂ b₃ : Bool) → starts (ascii "`1[[") (drop h s) ≡ b₁ → starts (ascii "`2[[") (drop h s) ≡ b₂ → Ok (NameStands (suc l) s) (after_head below at s h (cond b₁ 1 (cond b₂ 2 (cond b₃ 3 0))))
  unfolding after_head
  by_opening true b₂ b₃ e₁ e₂ = only_sound e₁ (below (at + (h + 4)) (drop (h + 4) s)) (sound_below (at + (h + 4)) (drop (h + 4) s))
  by_opening false true b₃ e₁ e₂ = first_sound e₂ (below (at + (h + 4)) (drop (h + 4) s)) (sound_below (at + (h + 4)) (drop (h + 4) s))
  by_opening false false true e₁ e₂ = not_read
  by_opening false false false e₁ e₂ = simple_sound

  after_sound : Ok (NameStands (suc l) s) (after_head below at s h (opening (drop h s)))
  unfolding opening
  after_sound = by_opening (starts (ascii "`1[[") (drop h s)) (starts (ascii "`2[[") (drop h s)) (starts (ascii "`") (drop h s)) refl refl

head-sound : (l at : ℕ) (s : List ℕ) (below : ℕ → List ℕ → Read) → ((p : ℕ) (r : List ℕ) → Ok (NameStands l r) (below p r)) → (h : ℕ) → h ≡ span head_byte s
    → Ok (NameStands (suc l) s) (headed below at s h)
unfolding headed
head-sound l at s below f zero e = not_read
head-sound l at s below f (suc h) e =
    let z : length (take (suc h) s) ≡ suc h = length-take-le (suc h) s (omega (arith, span_le head_byte s)) in
    let b : all head_byte (take (suc h) s) ≡ true = rw e (span_is head_byte s) in
    let some : take (suc h) s ≡ [] → ⊥ = λ q. omega (arith, ap length q) in
    after_sound l at s (suc h) (record { some = some; bytes = b }) z below f

pub sound : (l at : ℕ) (s : List ℕ) → Ok (NameStands l s) (name_in l at s)
unfolding name_in
sound zero at s = not_read
sound (suc l) at s = head-sound l at s (name_in l) (sound l) (span head_byte s) refl
