-- What writing into lent bytes answers, and what it leaves in them (01, refusal 21). Assumes nothing.
use Rattle.std.specs.Prelude.{cond, List, ◌++◌, ℕ, leb, length, drop}

-- refused with a number and a place, or the bytes that are written
pub data Rewritten : Type 0 where
  refusal : (number place : ℕ) → Rewritten
  written : List ℕ → Rewritten

-- 01: "21 output too small for a rewrite", placed at the "bytes needed"
unfoldable pub fitted : (bytes : List ℕ) (out : ℕ) → Rewritten
fitted bytes out = cond (leb (length bytes) out) (written bytes) (refusal 21 (length bytes))

-- 01: "output bytes past the new file stay"; after a refusal all stay
unfoldable pub output_of : Rewritten → (out : List ℕ) → List ℕ
output_of (refusal number place) out = out
output_of (written bytes) out = bytes ++ drop (length bytes) out
