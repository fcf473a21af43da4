-- A lawful name that is written is read back. Assumes nothing.
use Rattle.std.specs.Prelude.{◌≡◌, refl, Bool, true, List, [], ◌∷◌, ◌++◌, ℕ, zero, suc, ◌+◌, length, drop}
use Rattle.std.proofs.Common.{sym, ap, ◌∙◌, append_assoc, arith, length-append, drop-drop}
use Prim.Native.Char.{code}
use Rattle.std.proofs.Math.Seq.{drop-append_seam, drop-append-add, take-append_seam}
use Rattle.laws.specs.Small.{both}
use Rattle.layout.specs.Text.{ascii}
use Rattle.layout.specs.Name.{Tail, none, some, Name, simple, one, two, write_tail, write, head_byte, tail_byte, all, Tailed, Formed, NameHead, long_tail, long}
use Rattle.names.specs.Parse.{Read, name, span, starts, tail_size, tail_of, ended, closed, opening, on_only, on_second, on_first, after_head, headed, name_in}

-- what may follow a name: nothing, or a closing bracket
pub data Stops : List ℕ → Type 0 where
  end : Stops []
  bracket : {r : List ℕ} → Stops (code "]" ∷ r)

length-tail : (t : Tail) (rest : List ℕ) → length (write_tail t rest) ≡ long_tail t + length rest
unfolding write_tail long_tail ascii
length-tail none rest = omega arith
length-tail (some t) rest = simp length-append (omega arith)

pub length-write : (n : Name) (rest : List ℕ) → length (write n rest) ≡ long n + length rest
unfolding write long ascii
length-write (simple h t) rest = simp (length-append, length-tail t rest) (omega arith)
length-write (one h a t) rest = simp (length-append, length-write a (ascii "]]" ++ write_tail t rest), length-tail t rest) (omega arith)
length-write (two h a b t) rest =
    simp (length-append, length-write a (ascii "],[" ++ write b (ascii "]]" ++ write_tail t rest)), length-write b (ascii "]]" ++ write_tail t rest), length-tail t rest) (omega arith)

append-tail : (t : Tail) (r s : List ℕ) → write_tail t r ++ s ≡ write_tail t (r ++ s)
unfolding write_tail ascii
append-tail none r s = refl
append-tail (some t) r s = ap (λ (l : List ℕ). code "," ∷ l) (append_assoc t r s)

-- what is written behind a name goes on behind what follows it
pub write-append : (n : Name) (r s : List ℕ) → write n r ++ s ≡ write n (r ++ s)
unfolding write ascii
write-append (simple h t) r s = append_assoc h (write_tail t r) s ∙ ap (λ (l : List ℕ). h ++ l) (append-tail t r s)
write-append (one h a t) r s =
    let w = ascii "]]" ++ write_tail t r in
    append_assoc h (ascii "`1[[" ++ write a w) s ∙ ap (λ (l : List ℕ). h ++ (ascii "`1[[" ++ l)) (write-append a w s ∙ ap (λ (l : List ℕ). write a (ascii "]]" ++ l)) (append-tail t r s))
write-append (two h a b t) r s =
    let w = ascii "]]" ++ write_tail t r in
    let v = ascii "],[" ++ write b w in
    append_assoc h (ascii "`2[[" ++ write a v) s
    ∙ ap (λ (l : List ℕ). h ++ (ascii "`2[[" ++ l)) (write-append a v s
    ∙ ap (λ (l : List ℕ). write a (ascii "],[" ++ l)) (write-append b w s ∙ ap (λ (l : List ℕ). write b (ascii "]]" ++ l)) (append-tail t r s)))

pub span-past : (p : ℕ → Bool) (h rest : List ℕ) → all p h ≡ true → span p (h ++ rest) ≡ length h + span p rest
unfolding all span
span-past p [] rest a = omega arith
span-past p (b ∷ h) rest a =
    let q = both (p b) (all p h) a in
    rw (q.0, span-past p h rest q.1) (let z : suc (length h + span p rest) ≡ suc (length h) + span p rest = omega arith in z)

pub span_all : (p : ℕ → Bool) (h rest : List ℕ) → all p h ≡ true → span p rest ≡ 0 → span p (h ++ rest) ≡ length h
span_all p h rest a e = omega (arith, span-past p h rest a)

-- a closing bracket goes on with no head and no tail
stops_head : {rest : List ℕ} → Stops rest → span head_byte rest ≡ 0
unfolding span head_byte ascii
stops_head end = refl
stops_head bracket = refl

stops_tail : {rest : List ℕ} → Stops rest → span tail_byte rest ≡ 0
unfolding span tail_byte ascii
stops_tail end = refl
stops_tail bracket = refl

one_opens : (r : List ℕ) → (span head_byte (ascii "`1[[" ++ r) ≡ 0) × (opening (ascii "`1[[" ++ r) ≡ 1)
unfolding span head_byte opening starts ascii
one_opens r = (refl, refl)

two_opens : (r : List ℕ) → (span head_byte (ascii "`2[[" ++ r) ≡ 0) × (opening (ascii "`2[[" ++ r) ≡ 2)
unfolding span head_byte opening starts ascii
two_opens r = (refl, refl)

pub tail-opens : (t : Tail) {rest : List ℕ} → Stops rest → (span head_byte (write_tail t rest) ≡ 0) × (opening (write_tail t rest) ≡ 0)
unfolding span head_byte opening starts write_tail ascii
tail-opens none end = (refl, refl)
tail-opens none bracket = (refl, refl)
tail-opens (some t) w = (refl, refl)

tail_is : (t : Tail) {rest : List ℕ} → Tailed t → Stops rest → (tail_of (write_tail t rest) ≡ t) × (tail_size (write_tail t rest) ≡ long_tail t)
unfolding tail_of tail_size write_tail Tailed starts long_tail ascii
tail_is none ok end = (refl, refl)
tail_is none ok bracket = (refl, refl)
tail_is (some t) {rest} ok w =
    let z = span_all tail_byte t rest ok (stops_tail w) in
    (rw (z, take-append_seam t rest), rw z)

past-tail : (t : Tail) (rest : List ℕ) (k : ℕ) → drop (long_tail t + k) (write_tail t rest) ≡ drop k rest
unfolding write_tail long_tail ascii
past-tail none rest k =
    let e : 0 + k ≡ k = omega arith in
    rw e
past-tail (some t) rest k =
    let e : suc (length t) + k ≡ suc (length t + k) = omega arith in
    rw e (drop-append-add t rest k)

pub past : (n : Name) (rest : List ℕ) (k : ℕ) → drop (long n + k) (write n rest) ≡ drop k rest
unfolding write long ascii
past (simple h t) rest k =
    let e : length h + long_tail t + k ≡ length h + (long_tail t + k) = omega arith in
    rw e (drop-append-add h (write_tail t rest) (long_tail t + k) ∙ past-tail t rest k)
past (one h a t) rest k =
    let m = suc (suc (long_tail t + k)) in
    let e : length h + 4 + long a + 2 + long_tail t + k ≡ length h + suc (suc (suc (suc (long a + m)))) = omega arith in
    rw e (drop-append-add h _ (suc (suc (suc (suc (long a + m))))) ∙ past a (ascii "]]" ++ write_tail t rest) m ∙ past-tail t rest k)
past (two h a b t) rest k =
    let m = suc (suc (long_tail t + k)) in
    let j = suc (suc (suc (long b + m))) in
    let e : length h + 4 + long a + 3 + long b + 2 + long_tail t + k ≡ length h + suc (suc (suc (suc (long a + j)))) = omega arith in
    rw e (drop-append-add h _ (suc (suc (suc (suc (long a + j)))))
    ∙ past a (ascii "],[" ++ write b (ascii "]]" ++ write_tail t rest)) j
    ∙ past b (ascii "]]" ++ write_tail t rest) m ∙ past-tail t rest k)

-- at a place from which a known part of s stands
module _ (s : List ℕ) (e : ℕ) where
  ended_is : (n : Tail → Name) (t : Tail) {rest : List ℕ} → Tailed t → Stops rest → drop e s ≡ write_tail t rest → ended n s e ≡ name (n t) (e + long_tail t)
  ended_is n t ok w q =
      let i = tail_is t ok w in
      rw (q, i.0, i.1)

  pub further : (n : Name) (rest : List ℕ) → drop e s ≡ write n rest → drop (e + long n) s ≡ rest
  further n rest q =
      let z : long n + 0 ≡ long n = omega arith in
      sym (drop-drop (long n) e s) ∙ ap (drop (long n)) q ∙ rw z at (past n rest 0)

closed_is : (at : ℕ) (x : Name) (s : List ℕ) (e : ℕ) (n : Tail → Name) (t : Tail) {rest : List ℕ} → Tailed t → Stops rest → drop e s ≡ ascii "]]" ++ write_tail t rest → closed at n x s e ≡ name (n t) (e + 2 + long_tail t)
unfolding closed starts ascii
closed_is at x s e n t ok w q = rw q (ended_is s (e + 2) n t ok w (sym (drop-drop 2 e s) ∙ ap (drop 2) q))

-- a head that is written before what opens there
head_read : (below : ℕ → List ℕ → Read) (at : ℕ) (h r : List ℕ) (n : ℕ) → NameHead h → (span head_byte r ≡ 0) × (opening r ≡ n)
    → headed below at (h ++ r) (span head_byte (h ++ r)) ≡ after_head below at (h ++ r) (length h) n
unfolding headed
head_read below at [] r n w o = absurd (w.some refl)
head_read below at (b ∷ h) r n w o =
    let q : drop (length h) (h ++ r) ≡ r = drop-append_seam h r in
    rw (span_all head_byte (b ∷ h) r w.bytes o.0, q, o.1)

pub complete : (l at : ℕ) (n : Name) {rest : List ℕ} → Formed l n → Stops rest → name_in l at (write n rest) ≡ name n (long n)
unfolding Formed name_in after_head write long on_only on_first on_second starts ascii
complete zero at n f w = absurd f
complete (suc l) at (simple h t) {rest} f w =
    let r = write_tail t rest in
    rw (head_read (name_in l) at h r 0 f.0 (tail-opens t w), take-append_seam h r) (ended_is (h ++ r) (length h) (simple h) t f.1 w (drop-append_seam h r))
complete (suc l) at (one h a t) {rest} f w =
    let r₂ = ascii "]]" ++ write_tail t rest in
    let r₁ = ascii "`1[[" ++ write a r₂ in
    let s = h ++ r₁ in
    let d : drop (length h + 4) s ≡ write a r₂ = drop-append-add h r₁ 4 in
    rw (head_read (name_in l) at h r₁ 1 f.0 (one_opens (write a r₂)), d, complete l (at + (length h + 4)) a f.1 (bracket {r = ascii "]" ++ write_tail t rest}), take-append_seam h r₁)
    (closed_is at a s (length h + 4 + long a) (one h a) t f.2 w (further s (length h + 4) a r₂ d))
complete (suc l) at (two h a b t) {rest} f w =
    let r₃ = ascii "]]" ++ write_tail t rest in
    let r₂ = ascii "],[" ++ write b r₃ in
    let r₁ = ascii "`2[[" ++ write a r₂ in
    let s = h ++ r₁ in
    let d : drop (length h + 4) s ≡ write a r₂ = drop-append-add h r₁ 4 in
    let g : drop (length h + 4 + long a) s ≡ r₂ = further s (length h + 4) a r₂ d in
    let d₂ : drop (length h + 4 + long a + 3) s ≡ write b r₃ = sym (drop-drop 3 (length h + 4 + long a) s) ∙ ap (drop 3) g in
    rw (head_read (name_in l) at h r₁ 2 f.0 (two_opens (write a r₂)), d, complete l (at + (length h + 4)) a f.1 (bracket {r = ascii ",[" ++ write b r₃}), g, d₂, complete l (at + (length h + 4 + long a + 3)) b f.2 (bracket {r = ascii "]" ++ write_tail t rest}), take-append_seam h r₁)
    (closed_is at b s (length h + 4 + long a + 3 + long b) (two h a b) t f.3 w (further s (length h + 4 + long a + 3) b r₃ d₂))
