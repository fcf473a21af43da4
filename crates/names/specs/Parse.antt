-- Reading a name from left to right (01, "Reader names"; 02, Req 04: "10 becomes 33 to 38"). Faults.antt says what each fault means. Assumes nothing.
use Rattle.std.specs.Prelude.{Bool, true, false, ◌&&◌, ◌||◌, cond, List, [], ◌∷◌, ◌++◌, ℕ, zero, suc, ◌+◌, eqb, length, take, drop}
use Prim.Native.Char.{code}
use Rattle.layout.specs.Text.{ascii}
use Rattle.layout.specs.Name.{Tail, none, some, Name, simple, one, two, head_byte, tail_byte}
use Rattle.names.specs.Heading.{Heading, heading, headings}

-- broken, with 02's number, the fault's place and the heads that stand before it; or the name that stands first, and how many bytes it has
pub data Read : Type 0 where
  broken : (number place : ℕ) → List Heading → Read
  name : Name → ℕ → Read

-- how many bytes from the first on are of a class
unfoldable pub span : (ℕ → Bool) → List ℕ → ℕ
span p [] = 0
span p (b ∷ s) = cond (p b) (suc (span p s)) 0

-- the text t stands first in s
unfoldable pub starts : List ℕ → List ℕ → Bool
starts [] s = true
starts (a ∷ t) [] = false
starts (a ∷ t) (b ∷ s) = eqb a b && starts t s

-- how many bytes of the text t stand first in s, up to the first that does not
unfoldable pub common : List ℕ → List ℕ → ℕ
common [] s = 0
common (a ∷ t) [] = 0
common (a ∷ t) (b ∷ s) = cond (eqb a b) (suc (common t s)) 0

-- perhaps a comma and a tail: how many bytes they have
unfoldable pub tail_size : List ℕ → ℕ
tail_size s = cond (starts (ascii ",") s) (suc (span tail_byte (drop 1 s))) 0

-- the tail itself
unfoldable pub tail_of : List ℕ → Tail
tail_of s = cond (starts (ascii ",") s) (some (take (span tail_byte (drop 1 s)) (drop 1 s))) none

-- the name that n makes of the tail at e
abbrev pub ended : (Tail → Name) → List ℕ → ℕ → Read
ended n s e = name (n (tail_of (drop e s))) (e + tail_size (drop e s))

-- a byte that cannot follow a name is a bad one in its tail (37), follows its brackets (36) or is a bad one in its head (34)
unfoldable pub wrong_by : (bare : ℕ) → Tail → ℕ
wrong_by bare none = bare
wrong_by bare (some t) = 37

unfoldable pub wrong : Name → ℕ
wrong (simple h t) = wrong_by 34 t
wrong (one h a t) = wrong_by 36 t
wrong (two h a b t) = wrong_by 36 t

-- behind an argument, where brackets are due: 36, unless another byte than a bracket stands there, which is what it is behind that name
unfoldable pub behind : (other : ℕ) → List ℕ → ℕ
behind other [] = 36
behind other (b ∷ s) = cond (eqb b (code "]")) 36 other

-- the text w is due at e, behind the argument x, and does not stand there
abbrev pub missing : (w : List ℕ) (at : ℕ) → Name → List ℕ → (e : ℕ) → List Heading → Read
missing w at x s e hs = broken (behind (wrong x) (drop e s)) (at + (e + common w (drop e s))) hs

-- two brackets at e, behind the argument x, and perhaps a tail; the heads before are those of n, whatever its tail
unfoldable pub closed : (at : ℕ) → (Tail → Name) → Name → List ℕ → ℕ → Read
closed at n x s e = cond (starts (ascii "]]") (drop e s)) (ended n s (e + 2)) (missing (ascii "]]") at x s e (headings at (n none)))

-- what follows a head: no argument, one argument, two arguments, or (3) a backquote that opens none of these
unfoldable pub opening : List ℕ → ℕ
opening s = cond (starts (ascii "`1[[") s) 1 (cond (starts (ascii "`2[[") s) 2 (cond (starts (ascii "`") s) 3 0))

-- a backquote that opens no arguments: 02's number, and how many bytes behind the head the fault is
unfoldable pub unopened_number : List ℕ → ℕ
unopened_number s = cond (starts (ascii "`1") s || starts (ascii "`2") s) 36 35

unfoldable pub unopened_at : List ℕ → ℕ
unopened_at s = cond (starts (ascii "`1[") s || starts (ascii "`2[") s) 3 (cond (starts (ascii "`1") s || starts (ascii "`2") s) 2 1)

-- the only argument was read from a on
unfoldable pub on_only : (at : ℕ) → List ℕ → (h a : ℕ) → Read → Read
on_only at s h a (broken m p hs) = broken m p (heading (take h s) 1 at ∷ hs)
on_only at s h a (name x k) = closed at (one (take h s) x) x s (a + k)

-- the second argument was read from b on, the first from a on
unfoldable pub on_second : (at : ℕ) → List ℕ → (h a : ℕ) → Name → (b : ℕ) → Read → Read
on_second at s h a x b (broken m p hs) = broken m p (heading (take h s) 2 at ∷ (headings (at + a) x ++ hs))
on_second at s h a x b (name y k) = closed at (two (take h s) x y) y s (b + k)

-- the first of two arguments was read from a on
unfoldable pub on_first : (ℕ → List ℕ → Read) → (at : ℕ) → List ℕ → (h a : ℕ) → Read → Read
on_first below at s h a (broken m p hs) = broken m p (heading (take h s) 2 at ∷ hs)
on_first below at s h a (name x k) =
    cond (starts (ascii "],[") (drop (a + k) s))
    (on_second at s h a x (a + k + 3) (below (at + (a + k + 3)) (drop (a + k + 3) s)))
    (missing (ascii "],[") at x s (a + k) (heading (take h s) 2 at ∷ headings (at + a) x))

-- after a head of h bytes, by what follows it; an argument is a name of one level less
unfoldable pub after_head : (ℕ → List ℕ → Read) → (at : ℕ) → List ℕ → (h n : ℕ) → Read
after_head below at s h zero = ended (simple (take h s)) s h
after_head below at s h (suc zero) = on_only at s h (h + 4) (below (at + (h + 4)) (drop (h + 4) s))
after_head below at s h (suc (suc zero)) = on_first below at s h (h + 4) (below (at + (h + 4)) (drop (h + 4) s))
after_head below at s h (suc (suc (suc n))) = broken (unopened_number (drop h s)) (at + (h + unopened_at (drop h s))) []

-- after the bytes that may stand in a head: there is at least one
unfoldable pub headed : (ℕ → List ℕ → Read) → (at : ℕ) → List ℕ → ℕ → Read
headed below at s zero = broken 33 at []
headed below at s (suc h) = after_head below at s (suc h) (opening (drop (suc h) s))

-- the name that stands first in s, whose first byte is at this place, if it nests at most so many levels
unfoldable pub name_in : (levels at : ℕ) → List ℕ → Read
name_in zero at s = broken 38 at []
name_in (suc l) at s = headed (name_in l) at s (span head_byte s)

-- nothing stands after the name
unfoldable pub whole : (at : ℕ) → List ℕ → Read → Read
whole at s (broken m p hs) = broken m p hs
whole at s (name n k) = cond (eqb k (length s)) (name n k) (broken (wrong n) (at + k) (headings at n))

-- a reader's name, whose first byte is at this place; 01: "Names nest at most 8 levels, the reader's own being level 1"
unfoldable pub name_of : (at : ℕ) → List ℕ → Read
name_of at s = whole at s (name_in 8 at s)
