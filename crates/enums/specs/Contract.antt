-- What judging a list answers. Assumes nothing.
use Rattle.std.specs.Prelude.{Result, Ok, Err}
use Rattle.answers.specs.declared.Refusal.{Refusal}
use Rattle.answers.specs.Refusals.{refusal}
use Rattle.enums.specs.Judge.{Judgement, refused, lawful}

-- 02's number and the entry's number, or that the list is not refused
abbrev pub answer_of : Judgement → Result (Unit {0}) Refusal
answer_of (refused number entry) = Err (refusal number entry)
answer_of (lawful es) = Ok tt
