-- What the code asks of types at places of an array of codes. Laws.antt says what it means of the types that stand there. Assumes nothing.
use Rattle.std.specs.Prelude.{Bool, true, false, ◌&&◌, cond, List, [], ◌∷◌, ℕ, zero, suc, ◌+◌, ◌/◌, ◌%◌, eqb, leb, drop, get_or}
use Rattle.layout.specs.Kind.{alike}
use Rattle.targets.specs.Code.{head_at}

-- the kind of the type at a place, as its code has it
unfoldable pub kind_at : (codes : List ℕ) (place : ℕ) → ℕ
kind_at codes place = get_or codes place 0 % 64

-- how many arguments the type of a code has
abbrev pub arity : (code : ℕ) → ℕ
arity w = w / 64 % 4

-- how many codes the next `need` types have
unfoldable pub extent : List ℕ → (need : ℕ) → ℕ
extent [] n = 0
extent (w ∷ s) zero = 0
extent (w ∷ s) (suc n) = suc (extent s (n + arity w))

-- the place after the type at a place. The first argument of a type stands at the next place, the second after the first.
unfoldable pub place_after : (codes : List ℕ) (place : ℕ) → ℕ
place_after codes place = place + extent (drop place codes) 1

-- the heads at the places of two codes are the same; only an enum's is asked for
unfoldable pub same_name : (file : List ℕ) (w v : ℕ) → Bool
same_name file w v = cond (leb 60 (w % 64)) (alike (head_at file (w / 256)) (head_at file (v / 256))) true

-- two codes have one kind, as many arguments and, if they are enums, one name
unfoldable pub same_code : (file : List ℕ) (w v : ℕ) → Bool
same_code file w v = eqb (w % 256) (v % 256) && same_name file w v

-- the next `need` types have the same codes
unfoldable pub agree : (file : List ℕ) → List ℕ → (need : ℕ) → List ℕ → Bool
agree file [] zero u = true
agree file [] (suc n) u = false
agree file (w ∷ s) zero u = true
agree file (w ∷ s) (suc n) [] = false
agree file (w ∷ s) (suc n) (v ∷ u) = same_code file w v && agree file s (n + arity w) u

-- the types at two places have the same codes
unfoldable pub equal_at : (file codes : List ℕ) (a b : ℕ) → Bool
equal_at file codes a b = agree file (drop a codes) 1 (drop b codes)

-- an object declared as the type at d may be read by a reader of the type at t: Object takes every target, Texture takes Texture2D
unfoldable pub fits_at : (file codes : List ℕ) (d t : ℕ) → Bool
fits_at file codes d t =
    cond (eqb (kind_at codes d) 14) true (cond (eqb (kind_at codes d) 31 && eqb (kind_at codes t) 32) true (equal_at file codes d t))
