-- Which numbers the refusal of a file may have. Assumes nothing.
use Rattle.std.specs.Prelude.{◌≡◌, ◌⊎◌, ℕ, ◌≤◌}

-- those of 01's table for a load: 1 to 20, but for 10, in whose place 02, Req 04 has 33 to 38, and 22
abbrev pub LoadNumber : (number : ℕ) → Type 0
LoadNumber number = ((1 ≤ number) × (number ≤ 9)) ⊎ (((11 ≤ number) × (number ≤ 20)) ⊎ ((number ≡ 22) ⊎ ((33 ≤ number) × (number ≤ 38))))
