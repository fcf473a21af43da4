-- Reader names as they are written (01, "Reader names"). Assumes nothing.
use Rattle.std.specs.Prelude.{◌≡◌, Bool, true, not, ◌&&◌, ◌||◌, List, [], ◌∷◌, ◌++◌, ℕ, zero, suc, ◌+◌, eqb, length}
use Prim.Native.Char.{code}
use Rattle.layout.specs.Number.{between}
use Rattle.layout.specs.Text.{ascii}

-- 01: "then perhaps a comma and a tail"
pub data Tail : Type 0 where
  none : Tail
  some : List ℕ → Tail

-- 01: "A name is a head, perhaps a backquote, one digit and bracketed arguments, then perhaps a comma and a tail": with no argument, with one and with two
pub data Name : Type 0 where
  simple : (head : List ℕ) (tail : Tail) → Name
  one : (head : List ℕ) (a : Name) (tail : Tail) → Name
  two : (head : List ℕ) (a b : Name) (tail : Tail) → Name

-- 01: "ASCII letters, digits, `.`, `_`, `+`"
unfoldable pub head_byte : ℕ → Bool
head_byte b =
    between (code "a") (code "z") b || (between (code "A") (code "Z") b || (between (code "0") (code "9") b
    || (eqb b (code ".") || (eqb b (code "_") || eqb b (code "+")))))

-- each of some bytes is of a class
unfoldable pub all : (ℕ → Bool) → List ℕ → Bool
all p [] = true
all p (b ∷ s) = p b && all p s

-- 01: "The head is one or more ASCII letters, digits, `.`, `_`, `+`"
pub record NameHead (h : List ℕ) : Type 0 where
  pub some : h ≡ [] → ⊥
  pub bytes : all head_byte h ≡ true

-- a comma and a tail, if there is one, and then `rest`
unfoldable pub write_tail : Tail → (rest : List ℕ) → List ℕ
write_tail none rest = rest
write_tail (some t) rest = ascii "," ++ (t ++ rest)

-- 01: "Arguments stand as `[[A]]` or `[[A],[B]]`, as many as the digit (1 or 2) says. The part between a pair of inner brackets is again such a name": a name, and then `rest`
unfoldable pub write : Name → (rest : List ℕ) → List ℕ
write (simple h t) rest = h ++ write_tail t rest
write (one h a t) rest = h ++ (ascii "`1[[" ++ write a (ascii "]]" ++ write_tail t rest))
write (two h a b t) rest = h ++ (ascii "`2[[" ++ write a (ascii "],[" ++ write b (ascii "]]" ++ write_tail t rest)))

-- the bytes of a name
abbrev pub text : Name → List ℕ
text n = write n []

-- 01: "bytes 20 to 7E hex without brackets"
unfoldable pub tail_byte : ℕ → Bool
tail_byte b = between 0x20 0x7E b && (not (eqb b (code "[")) && not (eqb b (code "]")))

-- 01: "The tail is zero or more bytes 20 to 7E hex without brackets"
unfoldable pub Tailed : Tail → Type 0
Tailed none = Unit {0}
Tailed (some t) = all tail_byte t ≡ true

-- 01: "Names nest at most 8 levels, the reader's own being level 1": a name that keeps the rules above and nests at most so many levels
unfoldable pub Formed : (levels : ℕ) → Name → Type 0
Formed zero n = ⊥
Formed (suc l) (simple h t) = NameHead h × Tailed t
Formed (suc l) (one h a t) = NameHead h × Formed l a × Tailed t
Formed (suc l) (two h a b t) = NameHead h × Formed l a × Formed l b × Tailed t

-- how many bytes a name has
unfoldable pub long_tail : Tail → ℕ
long_tail none = 0
long_tail (some t) = suc (length t)

unfoldable pub long : Name → ℕ
long (simple h t) = length h + long_tail t
long (one h a t) = length h + 4 + long a + 2 + long_tail t
long (two h a b t) = length h + 4 + long a + 3 + long b + 2 + long_tail t
