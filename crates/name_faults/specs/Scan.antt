-- What stands at a place of a name follows from the bytes before it: they are read from left to right, with no level counted. Assumes nothing.
use Rattle.std.specs.Prelude.{◌≡◌, refl, Bool, true, false, cond, List, [], ◌∷◌, ◌++◌, ℕ, zero, suc, ◌+◌, ◌≤◌, eqb, length, take}
use Rattle.std.proofs.Common.{sym, ap, ◌∙◌, append_assoc, arith, eqb-true}
use Prim.Native.Char.{code}
use Rattle.std.proofs.Math.Seq.{take-append-add}
use Rattle.laws.specs.Small.{differ, both}
use Rattle.layout.specs.Text.{ascii}
use Rattle.layout.specs.Name.{Tail, none, some, Name, simple, one, two, write_tail, write, text, head_byte, tail_byte, all, Tailed, Formed, NameHead, long_tail, long}
use Rattle.layout.specs.Fault.{Part, head_start, head_end, digit, brackets, tail_end_lem, Place, start, head, digit_1, digit_2, opens_1, opens_2, closes_1, divides, closes_2, behind_1, behind_2, tail_0, tail_1, tail_2, only, first, second}
use Rattle.names.specs.Complete.{length-write, write-append}

-- where a reading stands: a head is due; in a head; a digit is due; the two brackets that open; behind the first that closes; behind the comma between arguments; behind both; in a tail
pub data State : Type 0 where
  at_head in_head at_digit at_open at_open_2 at_close at_second closed in_Tail : State

unfoldable pub step : State → ℕ → State
step at_head b = in_head
step in_head b = cond (eqb b (code "`")) at_digit (cond (eqb b (code "]")) at_close (cond (eqb b (code ",")) in_Tail in_head))
step at_digit b = at_open
step at_open b = at_open_2
step at_open_2 b = at_head
step at_close b = cond (eqb b (code "]")) closed at_second
step at_second b = at_head
step closed b = cond (eqb b (code "]")) at_close in_Tail
step in_Tail b = cond (eqb b (code "]")) at_close in_Tail

unfoldable pub run : State → List ℕ → State
run s [] = s
run s (b ∷ l) = run (step s b) l

unfoldable pub part_of : State → Part
part_of at_head = head_start
part_of in_head = head_end
part_of at_digit = digit
part_of at_open = brackets
part_of at_open_2 = brackets
part_of at_close = brackets
part_of at_second = brackets
part_of closed = brackets
part_of in_Tail = tail_end_lem

run-append : (s : State) (x y : List ℕ) → run s (x ++ y) ≡ run (run s x) y
unfolding run
run-append s [] y = refl
run-append s (b ∷ x) y = run-append (step s b) x y

-- a byte of a class is none that is not
other_byte : (p : ℕ → Bool) (c b : ℕ) → p c ≡ false → p b ≡ true → eqb b c ≡ false
other_byte p c b f t = go (eqb b c) refl where
  go : (x : Bool) → eqb b c ≡ x → eqb b c ≡ false
  go true e =
      let z : p c ≡ true = sym (ap p (eqb-true b c e)) ∙ t in
      differ cc
  go false e = e

not_head : (head_byte (code "`") ≡ false) × (head_byte (code "]") ≡ false) × (head_byte (code ",") ≡ false)
unfolding head_byte
not_head = (refl, refl, refl)

not_tail : tail_byte (code "]") ≡ false
unfolding tail_byte
not_tail = refl

run_heads : (h : List ℕ) → all head_byte h ≡ true → run in_head h ≡ in_head
unfolding run step all
run_heads [] e = refl
run_heads (b ∷ h) e =
    let w = both (head_byte b) (all head_byte h) e in
    rw (other_byte head_byte (code "`") b not_head.0 w.0, other_byte head_byte (code "]") b not_head.1 w.0, other_byte head_byte (code ",") b not_head.2 w.0) (run_heads h w.1)

run-head : (h : List ℕ) → NameHead h → run at_head h ≡ in_head
unfolding run step all
run-head [] w = absurd (w.some refl)
run-head (b ∷ h) w = run_heads h (both (head_byte b) (all head_byte h) w.bytes).1

run-tail : (t : List ℕ) → all tail_byte t ≡ true → run in_Tail t ≡ in_Tail
unfolding run step all
run-tail [] e = refl
run-tail (b ∷ t) e =
    let w = both (tail_byte b) (all tail_byte t) e in
    rw (other_byte tail_byte (code "]") b not_tail w.0) (run-tail t w.1)

-- ---- a whole name

unfoldable tail_end : State → Tail → State
tail_end s none = s
tail_end s (some t) = in_Tail

unfoldable end_of : Name → State
end_of (simple h t) = tail_end in_head t
end_of (one h a t) = tail_end closed t
end_of (two h a b t) = tail_end closed t

-- a comma begins a tail
behind_head : (t : Tail) (rest : List ℕ) → Tailed t → run in_head (write_tail t rest) ≡ run (tail_end in_head t) rest
unfolding write_tail tail_end Tailed run step ascii
behind_head none rest w = refl
behind_head (some t) rest w = run-append in_Tail t rest ∙ ap (λ (s : State). run s rest) (run-tail t w)

behind_brackets : (t : Tail) (rest : List ℕ) → Tailed t → run closed (write_tail t rest) ≡ run (tail_end closed t) rest
unfolding write_tail tail_end Tailed run step ascii
behind_brackets none rest w = refl
behind_brackets (some t) rest w = run-append in_Tail t rest ∙ ap (λ (s : State). run s rest) (run-tail t w)

-- a bracket closes any name
closes : (n : Name) (rest : List ℕ) → run (end_of n) (code "]" ∷ rest) ≡ run at_close rest
unfolding end_of tail_end run step
closes (simple h none) rest = refl
closes (simple h (some t)) rest = refl
closes (one h a none) rest = refl
closes (one h a (some t)) rest = refl
closes (two h a b none) rest = refl
closes (two h a b (some t)) rest = refl

past_head : (h rest : List ℕ) → NameHead h → run at_head (h ++ rest) ≡ run in_head rest
past_head h rest w = run-append at_head h rest ∙ ap (λ (s : State). run s rest) (run-head h w)

opens : (c : ℕ) (rest : List ℕ) → run in_head (code "`" ∷ c ∷ code "[" ∷ code "[" ∷ rest) ≡ run at_head rest
unfolding run step
opens c rest = refl

run-name : (l : ℕ) (n : Name) → Formed l n → (rest : List ℕ) → run at_head (write n rest) ≡ run (end_of n) rest
unfolding Formed write end_of ascii run step
run-name zero n f rest = absurd f
run-name (suc l) (simple h t) f rest = past_head h (write_tail t rest) f.0 ∙ behind_head t rest f.1
run-name (suc l) (one h a t) f rest =
    past_head h (ascii "`1[[" ++ write a (ascii "]]" ++ write_tail t rest)) f.0 ∙ opens (code "1") (write a (ascii "]]" ++ write_tail t rest)) ∙ run-name l a f.1 (ascii "]]" ++ write_tail t rest) ∙ closes a (code "]" ∷ write_tail t rest) ∙ behind_brackets t rest f.2
run-name (suc l) (two h a b t) f rest =
    past_head h (ascii "`2[[" ++ write a (ascii "],[" ++ write b (ascii "]]" ++ write_tail t rest))) f.0 ∙ opens (code "2") (write a (ascii "],[" ++ write b (ascii "]]" ++ write_tail t rest)))
    ∙ run-name l a f.1 (ascii "],[" ++ write b (ascii "]]" ++ write_tail t rest)) ∙ closes a (code "," ∷ code "[" ∷ write b (ascii "]]" ++ write_tail t rest))
    ∙ run-name l b f.2 (ascii "]]" ++ write_tail t rest) ∙ closes b (code "]" ∷ write_tail t rest) ∙ behind_brackets t rest f.3

-- ---- the bytes before a place

take_head : (h rest : List ℕ) (k i : ℕ) → NameHead h → i ≡ length h + k → run at_head (take i (h ++ rest)) ≡ run in_head (take k rest)
take_head h rest k i w e = ap (λ (m : ℕ). run at_head (take m (h ++ rest))) e ∙ ap (run at_head) (take-append-add h rest k) ∙ past_head h (take k rest) w

take-name : (l : ℕ) (n : Name) (rest : List ℕ) (k i : ℕ) → Formed l n → i ≡ long n + k → run at_head (take i (write n rest)) ≡ run (end_of n) (take k rest)
unfolding run
take-name l n rest k i f e =
    let z : length (text n) ≡ long n = omega (arith, length-write n []) in
    let j : i ≡ length (text n) + k = omega arith in
    ap (λ (m : ℕ). run at_head (take m (write n rest))) j ∙ ap (λ (x : List ℕ). run at_head (take (length (text n) + k) x)) (sym (write-append n [] rest)) ∙ ap (run at_head) (take-append-add (text n) rest k)
    ∙ run-append at_head (text n) (take k rest) ∙ ap (λ (s : State). run s (take k rest)) (run-name l n f [])

-- at the end of a name
take-end : (l : ℕ) (n : Name) (rest : List ℕ) → Formed l n → run at_head (take (long n) (write n rest)) ≡ end_of n
unfolding run
take-end l n rest f = take-name l n rest 0 (long n) f (omega arith)

-- behind what opens arguments
take_open : (h : List ℕ) (c : ℕ) (rest : List ℕ) (k i : ℕ) → NameHead h → i ≡ length h + 4 + k → run at_head (take i (h ++ (code "`" ∷ c ∷ code "[" ∷ code "[" ∷ rest))) ≡ run at_head (take k rest)
unfolding run step
take_open h c rest k i w e = take_head h (code "`" ∷ c ∷ code "[" ∷ code "[" ∷ rest) (suc (suc (suc (suc k)))) i w (omega arith)

-- in what opens them
open_part : (h : List ℕ) (c : ℕ) (rest : List ℕ) (j i : ℕ) → NameHead h → 2 ≤ j → j ≤ 3 → i ≡ length h + j → part_of (run at_head (take i (h ++ (code "`" ∷ c ∷ code "[" ∷ code "[" ∷ rest)))) ≡ brackets
unfolding run step part_of
open_part h c rest zero i w a b e = absurd (omega arith)
open_part h c rest (suc zero) i w a b e = absurd (omega arith)
open_part h c rest (suc (suc zero)) i w a b e = ap part_of (take_head h (code "`" ∷ c ∷ code "[" ∷ code "[" ∷ rest) 2 i w e)
open_part h c rest (suc (suc (suc zero))) i w a b e = ap part_of (take_head h (code "`" ∷ c ∷ code "[" ∷ code "[" ∷ rest) 3 i w e)
open_part h c rest (suc (suc (suc (suc j)))) i w a b e = absurd (omega arith)

-- behind the first argument, and its bracket
take_first : (l : ℕ) (h : List ℕ) (c : ℕ) (a : Name) (rest : List ℕ) (k i : ℕ) → NameHead h → Formed l a → i ≡ length h + 4 + long a + suc k
    → run at_head (take i (h ++ (code "`" ∷ c ∷ code "[" ∷ code "[" ∷ write a (code "]" ∷ rest)))) ≡ run at_close (take k rest)
take_first l h c a rest k i w f e =
    take_open h c (write a (code "]" ∷ rest)) (long a + suc k) i w (omega arith) ∙ take-name l a (code "]" ∷ rest) (suc k) (long a + suc k) f refl ∙ closes a (take k rest)

-- behind the comma between arguments
take_second : (l : ℕ) (h : List ℕ) (a b : Name) (rest : List ℕ) (k i : ℕ) → NameHead h → Formed l a → i ≡ length h + 4 + long a + 3 + k
    → run at_head (take i (h ++ (code "`" ∷ code "2" ∷ code "[" ∷ code "[" ∷ write a (code "]" ∷ code "," ∷ code "[" ∷ write b rest)))) ≡ run at_head (take k (write b rest))
unfolding run step
take_second l h a b rest k i w f e = take_first l h (code "2") a (code "," ∷ code "[" ∷ write b rest) (suc (suc k)) i w f (omega arith)

divide_part : (rest : List ℕ) (k : ℕ) → k ≤ 1 → part_of (run at_close (take k (code "," ∷ rest))) ≡ brackets
unfolding run step part_of
divide_part rest zero h = refl
divide_part rest (suc zero) h = refl
divide_part rest (suc (suc k)) h = absurd (omega arith)

pub place-part : (l : ℕ) (n : Name) (u : List ℕ) {r i : ℕ} {p : Part} → Formed l n → Place r p n i → part_of (run at_head (take i (write n u))) ≡ p
unfolding Formed write ascii run step part_of end_of tail_end
place-part zero n u f w = absurd f
place-part (suc l) n u f start = refl
place-part (suc l) (simple h none) u f head = ap part_of (take-end (suc l) (simple h none) u f)
place-part (suc l) (simple h (some t)) u f tail_0 = ap part_of (take-end (suc l) (simple h (some t)) u f)
place-part (suc l) (one h a t) u {i = i} f (digit_1 e) = ap part_of (take_head h (ascii "`1[[" ++ write a (ascii "]]" ++ write_tail t u)) 1 i f.0 e)
place-part (suc l) (one h a t) u {i = i} f (opens_1 {j = j} b c e) = open_part h (code "1") (write a (ascii "]]" ++ write_tail t u)) j i f.0 b c e
place-part (suc l) (one h a t) u {i = i} f (closes_1 e) = ap part_of (take_first l h (code "1") a (ascii "]" ++ write_tail t u) 0 i f.0 f.1 e)
place-part (suc l) (one h a none) u f behind_1 = ap part_of (take-end (suc l) (one h a none) u f)
place-part (suc l) (one h a (some t)) u f tail_1 = ap part_of (take-end (suc l) (one h a (some t)) u f)
place-part (suc l) (one h a t) u {i = i} f (only {j = j} e w) =
    ap part_of (take_open h (code "1") (write a (ascii "]]" ++ write_tail t u)) j i f.0 e) ∙ place-part l a (ascii "]]" ++ write_tail t u) f.1 w
place-part (suc l) (two h a b t) u {i = i} f (digit_2 e) = ap part_of (take_head h (ascii "`2[[" ++ write a (ascii "],[" ++ write b (ascii "]]" ++ write_tail t u))) 1 i f.0 e)
place-part (suc l) (two h a b t) u {i = i} f (opens_2 {j = j} c d e) = open_part h (code "2") (write a (ascii "],[" ++ write b (ascii "]]" ++ write_tail t u))) j i f.0 c d e
place-part (suc l) (two h a b t) u {i = i} f (divides {j = suc k} c d e) =
    ap part_of (take_first l h (code "2") a (ascii ",[" ++ write b (ascii "]]" ++ write_tail t u)) k i f.0 f.1 e) ∙ divide_part (code "[" ∷ write b (ascii "]]" ++ write_tail t u)) k (omega arith)
place-part (suc l) (two h a b t) u f (divides {j = zero} c d e) = absurd (omega arith)
place-part (suc l) (two h a b t) u {i = i} f (closes_2 e) =
    ap part_of (take_second l h a b (ascii "]]" ++ write_tail t u) (long b + 1) i f.0 f.1 (omega arith) ∙ take-name l b (ascii "]]" ++ write_tail t u) 1 (long b + 1) f.2 refl
    ∙ closes b [])
place-part (suc l) (two h a b none) u f behind_2 = ap part_of (take-end (suc l) (two h a b none) u f)
place-part (suc l) (two h a b (some t)) u f tail_2 = ap part_of (take-end (suc l) (two h a b (some t)) u f)
place-part (suc l) (two h a b t) u {i = i} f (first {j = j} e w) =
    ap part_of (take_open h (code "2") (write a (ascii "],[" ++ write b (ascii "]]" ++ write_tail t u))) j i f.0 e) ∙ place-part l a (ascii "],[" ++ write b (ascii "]]" ++ write_tail t u)) f.1 w
place-part (suc l) (two h a b t) u {i = i} f (second {j = j} e w) =
    ap part_of (take_second l h a b (ascii "]]" ++ write_tail t u) j i f.0 f.1 e) ∙ place-part l b (ascii "]]" ++ write_tail t u) f.2 w
