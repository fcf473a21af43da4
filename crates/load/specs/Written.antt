-- How an answer of a load is written, in the code's own types. Assumes nothing.
use Rattle.std.specs.Prelude.{ℕ, Result}
use Rattle.answers.specs.declared.Refusal.{Refusal}
use Rattle.load.specs.declared.Loaded.{Loaded}

-- what loading a file answers in code
abbrev pub Loading : Type 0
Loading = Result Loaded Refusal

-- so many rows and readers, this shared count and this padding
abbrev pub loaded : (rows readers shared padding : ℕ) → Loaded
loaded rows readers shared padding = record { rows = rows; readers = readers; shared = shared; padding = padding }
