-- Images and their levels (01, "Texture2D"; 000, "Texture2D"). Assumes nothing.
use Rattle.std.specs.Prelude.{List, [], ◌∷◌, ℕ, zero, suc, ◌+◌, ◌*◌, ◌/◌, max, get_or}

-- 01: "bytes per pixel for formats 0 to 3 and 7 to 18 are 4, 2, 2, 2 and 2, 4, 4, 4, 8, 1, 4, 8, 16, 2, 4, 8"; 0 for the formats in blocks
unfoldable pub pixel_bytes : List ℕ
pixel_bytes = 4 ∷ 2 ∷ 2 ∷ 2 ∷ 0 ∷ 0 ∷ 0 ∷ 2 ∷ 4 ∷ 4 ∷ 4 ∷ 8 ∷ 1 ∷ 4 ∷ 8 ∷ 16 ∷ 2 ∷ 4 ∷ 8 ∷ []

-- 01: "formats 4, 5, 6 take 8, 16, 16 per block of 4 by 4"; 0 for the formats in pixels
unfoldable pub block_bytes : List ℕ
block_bytes = 0 ∷ 0 ∷ 0 ∷ 0 ∷ 8 ∷ 16 ∷ 16 ∷ []

-- the bytes of a level of these sides; of blocks, 01: "sides rounded up"
unfoldable pub level_bytes : (format width height : ℕ) → ℕ
level_bytes format w h = get_or pixel_bytes format 0 * (w * h) + get_or block_bytes format 0 * ((w + 3) / 4 * ((h + 3) / 4))

-- 01: "Level i has sides halved i times, rounded down, at least 1": the sizes of n levels, the first of these sides
unfoldable pub levels : (format width height n : ℕ) → List ℕ
levels format w h zero = []
levels format w h (suc n) = level_bytes format w h ∷ levels format (max 1 (w / 2)) (max 1 (h / 2)) n

-- 01: "the number of binary digits", of a number below 2 to the k
unfoldable pub digits : (k x : ℕ) → ℕ
digits zero x = 0
digits (suc k) zero = 0
digits (suc k) (suc x) = suc (digits k (suc x / 2))
