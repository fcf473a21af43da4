-- Which numbers the refusal of a pack may have. Assumes nothing.
use Rattle.std.specs.Prelude.{◌≡◌, Bool, true, ◌⊎◌, ℕ}

-- Req 01: "Refusals: 1, 8, 9, 15 and 20 as in 01", and 31 where the table has no room; Req 10: 51 for a missing mark, in packs with marks
abbrev pub PackNumber : (marked : Bool) (number : ℕ) → Type 0
PackNumber marked number =
    (number ≡ 1) ⊎ ((number ≡ 8) ⊎ ((number ≡ 9) ⊎ ((number ≡ 15) ⊎ ((number ≡ 20) ⊎ ((number ≡ 31) ⊎ ((number ≡ 51) × (marked ≡ true)))))))
