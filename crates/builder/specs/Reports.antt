-- What the C entries over reports tell: the number that they answer, and the number that they write. Assumes nothing.
use Rattle.std.specs.Prelude.{ℕ}
use Rattle.pack_figures.specs.Report.{Added, unchanged, added}

-- a refusal's number and place, or 0 and 0
unfoldable pub add_told : Added → ℕ × ℕ
add_told (unchanged number place) = (number, place)
add_told (added s) = (0, 0)

-- a refusal's number, or 0
unfoldable pub sum_told : Added → ℕ
sum_told (unchanged number place) = number
sum_told (added s) = 0
