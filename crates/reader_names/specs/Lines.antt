-- The refusal of each line of a text, a line being a reader name. Assumes nothing.
use Rattle.std.specs.Prelude.{◌≡◌, Bool, true, not, cond, List, [], ◌∷◌, ℕ, zero, suc, ◌+◌, ◌*◌, eqb, leb, length, take, drop}
use Rattle.std.proofs.lemmas.List.Edits.{sets}
use Rattle.names.specs.Parse.{span, name_of}
use Rattle.names.specs.Contract.{Answer, coded, refused, no_room}
use Rattle.targets.specs.Contract.{resolution}

-- an answer in one number: 0 for a known target; else 65536 for each of the refusal's number, and its place.
-- 01: "count, name length or file too large, or empty name" is 9
abbrev pub number : Answer → ℕ
number (coded used) = 0
number (refused k place) = 65536 * k + place
number no_room = 65536 * 9

-- 01: a name has 1 to 1,024 bytes, and is judged in full; here no enum type is listed, and a name of 1,024 bytes has at most 187 codes
unfoldable pub refusal : List ℕ → ℕ
refusal s = cond (eqb (length s) 0) (65536 * 9) (cond (leb (length s) 1024) (number (resolution [] true 187 0 0 (name_of 0 s))) (65536 * 9))

-- a line ends before a byte 0A hex
abbrev pub in_line : ℕ → Bool
in_line b = not (eqb b 10)

-- how many bytes the first line has
unfoldable pub line_size : List ℕ → ℕ
line_size s = span in_line s

-- the refusals of the first lines, at most so many
unfoldable pub refusals : (lines : ℕ) → List ℕ → List ℕ
refusals zero s = []
refusals (suc l) [] = []
refusals (suc l) (b ∷ s) = refusal (take (line_size (b ∷ s)) (b ∷ s)) ∷ refusals l (drop (line_size (b ∷ s) + 1) (b ∷ s))

-- the refusals of all lines: a text has no more lines than bytes
abbrev pub all : List ℕ → List ℕ
all s = refusals (length s) s

-- how many lines the text s has, and the numbers before and after
pub record Judges (s n n' : List ℕ) (count : ℕ) : Type 0 where
  pub counts : count ≡ length (all s)
  pub writes : n' ≡ sets n 0 (all s)
