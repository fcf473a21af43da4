-- Zeros in the rest of a list, and a part of one list in another. Assumes nothing.
use Rattle.std.specs.Prelude.{◌≡◌, refl, Bool, ◌&&◌, cond, List, ◌++◌, ℕ, ◌+◌, ◌-◌, leb, length, take, drop, replicate}

-- 01, "The row table": "Every word not in a used row is zero": the words with zeros from an index on
unfoldable pub cleared : List ℕ → ℕ → List ℕ
cleared l from = take from l ++ replicate (length l - from) 0

pub cleared_is : (l : List ℕ) (from : ℕ) → cleared l from ≡ take from l ++ replicate (length l - from) 0
unfolding cleared
cleared_is l from = refl

-- zeros from an index to before another
unfoldable pub wiped : List ℕ → (from to : ℕ) → List ℕ
wiped l from to = take from l ++ replicate (to - from) 0 ++ drop (from + (to - from)) l

-- n bytes of src from an index on, put into out from an index on
unfoldable pub pasted : (out : List ℕ) (to : ℕ) (src : List ℕ) (from n : ℕ) → List ℕ
pasted out to src from n = take to out ++ take n (drop from src) ++ drop (to + n) out

-- both ranges end inside
unfoldable pub inside : (out : List ℕ) (to : ℕ) (src : List ℕ) (from n : ℕ) → Bool
inside out to src from n = leb (to + n) (length out) && leb (from + n) (length src)

-- what a copy leaves: the bytes where both ranges are inside, else what was there
unfoldable pub copied : (out : List ℕ) (to : ℕ) (src : List ℕ) (from n : ℕ) → List ℕ
copied out to src from n = cond (inside out to src from n) (pasted out to src from n) out
