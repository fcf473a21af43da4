-- What the C entries over packs tell: the number that they answer, and the numbers that they write. Assumes nothing.
use Rattle.std.specs.Prelude.{ℕ, length, Result, Ok, Err}
use Rattle.answers.specs.declared.Refusal.{Refusal}
use Rattle.reading.specs.Output.{Rewritten, written}
use Rattle.reading.specs.Output as output
use Rattle.pack_reading.specs.Pack.{Pack, refusal, accepted}
use Rattle.pack_salvage.specs.Salvage.{Salvaged, salvaged}
use Rattle.pack_salvage.specs.Salvage as salvage
use Rattle.pack_reading.specs.Lookup.{Found, absent, found}

-- a refusal's number and place, or 0 and a number
abbrev pub number_told : Result ℕ Refusal → ℕ × ℕ
number_told (Err e) = (e.number, e.place)
number_told (Ok n) = (0, n)

-- a refusal's number and place, or 0 and the number of files
unfoldable pub pack_told : Pack → ℕ × ℕ
pack_told (refusal number place) = (number, place)
pack_told (accepted fs) = (0, length fs)

-- a refusal's number and place, or 0 and the length of what is written
unfoldable pub written_told : Rewritten → ℕ × ℕ
written_told (output.refusal number place) = (number, place)
written_told (written bytes) = (0, length bytes)

-- a refusal's number and place, and 0; or 0, the length of the new pack and the number of stretches
unfoldable pub salvage_told : Salvaged → ℕ × ℕ × ℕ
salvage_told (salvage.refusal number place) = (number, place, 0)
salvage_told (salvaged bytes l) = (0, length bytes, length l)

-- 1, where the data starts and how many bytes it has; or three times 0
unfoldable pub found_told : Found → ℕ × ℕ × ℕ
found_told absent = (0, 0, 0)
found_told (found first count) = (1, first, count)
