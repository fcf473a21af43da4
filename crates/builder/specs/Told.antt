-- What the C entries tell: the number that they answer, and the numbers that they write (01, "Looking up"). Assumes nothing.
use Rattle.std.specs.Prelude.{List, ℕ, ℤ, pos, Err, Ok, Result}
use Rattle.reading.specs.File.{Load, refusal, accepted}
use Rattle.places.specs.Padding.{file_padding}
use Rattle.builder.specs.Packed.{packed}
use Rattle.answers.specs.declared.Refusal.{Refusal}
use Rattle.lookups.specs.declared.Span.{Span}
use Rattle.ticks.specs.declared.Time.{Time}

-- the packed answer, the number of readers, the shared count, and (02, Req 06) the file's padding: "Refused files report 0"
unfoldable pub load_told : (file : List ℕ) → Load → ℕ × ℕ × ℕ × ℕ
load_told file (refusal number place) = (packed (refusal number place), 0, 0, 0)
load_told file (accepted rows readers shared) = (packed (accepted rows readers shared), readers, shared, file_padding file readers rows)

-- 01: "a refusal's part is empty": the refusal's number or 0, the first byte and the length
unfoldable pub span_told : Result Span Refusal → ℕ × ℕ × ℕ
span_told (Err e) = (e.number, 0, 0)
span_told (Ok r) = (0, r.first, r.length)

-- 01: "its number 0": the refusal's number or 0, and the signed number
unfoldable pub signed_told : Result ℤ Refusal → ℕ × ℤ
signed_told (Err e) = (e.number, pos 0)
signed_told (Ok value) = (0, value)

-- the refusal's number or 0, the seconds and the ticks
unfoldable pub time_told : Result Time Refusal → ℕ × ℤ × ℕ
time_told (Err e) = (e.number, pos 0, 0)
time_told (Ok time) = (0, time.seconds, time.ticks)
