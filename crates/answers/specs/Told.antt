-- What an answer of the code tells. Assumes nothing.
use Rattle.std.specs.Prelude.{ℕ, Result, Ok, Err}
use Rattle.answers.specs.declared.Read.{Read}
use Rattle.answers.specs.declared.Refusal.{Refusal}
use Rattle.reading.specs.Answer.{Answer, read, refused}

abbrev pub told : Result Read Refusal → Answer ℕ
told (Ok r) = read r.value r.next
told (Err e) = refused e.number e.place
