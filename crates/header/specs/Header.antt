-- What the code answers for a header. Assumes nothing.
use Rattle.std.specs.Prelude.{ℕ, List, Result, Ok, Err}
use Rattle.answers.specs.declared.Read.{Read}
use Rattle.answers.specs.declared.Refusal.{Refusal}
use Rattle.answers.specs.Refusals.{refusal}
use Rattle.reading.specs.Answer.{Answer, read, refused}
use Rattle.reading.specs.File.{header_at}

-- a refusal's number and place, or 0 and the place behind the header
abbrev pub to_header : Answer (ℕ × ℕ) → Result Read Refusal
to_header (refused number place) = Err (refusal number place)
to_header (read h next) = Ok (record { value = 0; next = next })

-- what the code answers for a file's header
abbrev pub header_of : (file : List ℕ) → Result Read Refusal
header_of file = to_header (header_at file)
