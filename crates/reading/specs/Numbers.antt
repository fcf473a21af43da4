-- Which numbers the refusal of a file may have. Assumes nothing.
use Rattle.std.proofs.Common.{inl, inr, arith}
use Rattle.std.specs.Prelude.{ℕ, ◌≤◌}
use Rattle.layout.specs.Refusals.{LoadNumber}

pub last_number : {number : ℕ} → LoadNumber number → number ≤ 38
last_number (inl i) = omega (arith, i.1)
last_number (inr (inl i)) = omega (arith, i.1)
last_number (inr (inr (inl i))) = omega arith
last_number (inr (inr (inr i))) = i.1
