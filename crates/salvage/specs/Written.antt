-- How an answer of salvaging is written, in the code's own types. Assumes nothing.
use Rattle.std.specs.Prelude.{ℕ}
use Rattle.salvage.specs.declared.Salvaged.{Salvaged}

-- the length of the new pack, and the number of stretches
abbrev pub salvaged_so : (length stretches : ℕ) → Salvaged
salvaged_so length stretches = record { length = length; stretches = stretches }
