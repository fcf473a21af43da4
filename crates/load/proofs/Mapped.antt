-- A walk's answer as a step's, by what the library says of `map`. Assumes nothing.
use Rattle.std.specs.Prelude.{◌≡◌, Result, Ok, Err}
use Rattle.std.specs.Result.{MatchResult, IsOkAnd}
use Rattle.std.proofs.Common.{ap}
use Rattle.answers.specs.declared.Refusal.{Refusal}
use Rattle.walked.specs.Contract.{Walk}
use Rattle.steps.specs.declared.Stepped.{Stepped}
use Rattle.steps.specs.declared.Stepped.TheVariants.{Done}
use Rattle.steps.specs.Steps.{step_of}

pub mapped : (w : Walk) (r : Result Stepped Refusal) → MatchResult w (λ x. IsOkAnd r (λ y. y ≡ Done x)) (λ e. r ≡ Err e) → r ≡ step_of w
mapped (Ok x) (Ok y) h = ap Ok h
mapped (Ok x) (Err e) h = absurd h
mapped (Err e) r h = h
