-- What 33 to 38 say of a reader's name, and where (02, Req 04). Assumes nothing.
use Rattle.std.specs.Prelude.{◌≡◌, Bool, cond, List, ◌⊎◌, ℕ, suc, ◌+◌, ◌≤◌, ◌<◌, eqb, length, take}
use Rattle.layout.specs.Name.{Tail, none, some, Name, simple, one, two, text, Formed, long}

-- 02: "empty head, bad byte in a head, digit not 1 or 2, argument brackets out of form or followed by a wrong byte, bad byte in a tail": what a place in a name is
pub data Part : Type 0 where
  -- a head starts here
  head_start : Part
  -- a head ends here, and the name with it
  head_end : Part
  -- behind the backquote: the digit is due
  digit : Part
  -- a bracket of the arguments, or the comma between them, is due; or the brackets end here, and the name with them
  brackets : Part
  -- a tail ends here, and the name with it
  tail_end_lem : Part

-- the place i of a name's text is such a part of it, or of a name among its arguments: at level 1 of the name itself, at level 2 of an argument, and so on
pub data Place : (level : ℕ) → Part → Name → (i : ℕ) → Type 0 where
  start : {n : Name} → Place 1 head_start n 0
  head : {h : List ℕ} → Place 1 head_end (simple h none) (long (simple h none))
  digit_1 : {h : List ℕ} {a : Name} {t : Tail} {i : ℕ} → i ≡ length h + 1 → Place 1 digit (one h a t) i
  digit_2 : {h : List ℕ} {a b : Name} {t : Tail} {i : ℕ} → i ≡ length h + 1 → Place 1 digit (two h a b t) i
  opens_1 : {h : List ℕ} {a : Name} {t : Tail} {i j : ℕ} → 2 ≤ j → j ≤ 3 → i ≡ length h + j → Place 1 brackets (one h a t) i
  opens_2 : {h : List ℕ} {a b : Name} {t : Tail} {i j : ℕ} → 2 ≤ j → j ≤ 3 → i ≡ length h + j → Place 1 brackets (two h a b t) i
  closes_1 : {h : List ℕ} {a : Name} {t : Tail} {i : ℕ} → i ≡ length h + 4 + long a + 1 → Place 1 brackets (one h a t) i
  divides : {h : List ℕ} {a b : Name} {t : Tail} {i j : ℕ} → 1 ≤ j → j ≤ 2 → i ≡ length h + 4 + long a + j → Place 1 brackets (two h a b t) i
  closes_2 : {h : List ℕ} {a b : Name} {t : Tail} {i : ℕ} → i ≡ length h + 4 + long a + 3 + long b + 1 → Place 1 brackets (two h a b t) i
  behind_1 : {h : List ℕ} {a : Name} → Place 1 brackets (one h a none) (long (one h a none))
  behind_2 : {h : List ℕ} {a b : Name} → Place 1 brackets (two h a b none) (long (two h a b none))
  tail_0 : {h t : List ℕ} → Place 1 tail_end_lem (simple h (some t)) (long (simple h (some t)))
  tail_1 : {h t : List ℕ} {a : Name} → Place 1 tail_end_lem (one h a (some t)) (long (one h a (some t)))
  tail_2 : {h t : List ℕ} {a b : Name} → Place 1 tail_end_lem (two h a b (some t)) (long (two h a b (some t)))
  only : {l : ℕ} {p : Part} {h : List ℕ} {a : Name} {t : Tail} {i j : ℕ} → i ≡ length h + 4 + j → Place l p a j → Place (suc l) p (one h a t) i
  first : {l : ℕ} {p : Part} {h : List ℕ} {a b : Name} {t : Tail} {i j : ℕ} → i ≡ length h + 4 + j → Place l p a j → Place (suc l) p (two h a b t) i
  second : {l : ℕ} {p : Part} {h : List ℕ} {a b : Name} {t : Tail} {i j : ℕ} → i ≡ length h + 4 + long a + 3 + j → Place l p b j → Place (suc l) p (two h a b t) i

-- the number of a fault by what its place is, and whether the name ends there too soon.
-- 02: "10 becomes 33 to 38 in the order named"; "a level-9 part is faulted where it starts, even at the name's end"; "or the name's end if it ends too soon (36 if a bracket is due there)"
unfoldable pub fault_number : (level : ℕ) → Part → (ended : Bool) → ℕ
fault_number level head_start ended = cond (eqb level 9) 38 33
fault_number level head_end ended = cond ended 36 34
fault_number level digit ended = 35
fault_number level brackets ended = 36
fault_number level tail_end_lem ended = cond ended 36 37

-- the bytes s of a reader's name are faulty at the place i from their first, with this number
pub record Fault (s : List ℕ) (number i : ℕ) : Type 0 where
  -- 02: "Each is placed at the offending byte, or the name's end"
  pub inside : i ≤ length s
  -- all bytes before the place begin a name that keeps every rule but the limit of 8 levels ..
  pub n : Name
  pub formed : Formed 9 n
  pub before : take i (text n) ≡ take i s
  -- .. and the place is this part of that name: of a level-9 part its start, for 38
  pub level : ℕ
  pub part : Part
  pub place : Place level part n i
  pub is : number ≡ fault_number level part (eqb i (length s))
  -- 02: "the leftmost place decides, at one place 38": where that name has a level-9 part, it starts behind the place, or there if the number is 38
  pub leftmost : (j : ℕ) → Place 9 head_start n j → (i < j) ⊎ ((i ≡ j) × (number ≡ 38))
  -- with the byte at the place, or with the end that stands there, no name of any number of levels begins so; 38 alone says nothing of what stands there
  pub after : (number ≡ 38 → ⊥) → (levels : ℕ) (m : Name) → Formed levels m → take (suc i) (text m) ≡ take (suc i) s → ⊥
