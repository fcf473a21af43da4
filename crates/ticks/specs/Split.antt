-- 01, "Looking up": "A time in ticks is split into whole seconds, rounded down, and 0 to 9,999,999 ticks." Assumes nothing.
use Rattle.std.specs.Prelude.{ℕ, ◌-◌, ◌/◌, ◌%◌, ℤ, pos, negsuc}
use Rattle.ticks.specs.declared.Time.{Time}

-- t divided by d, rounded down; negsuc n is -(n + 1)
abbrev pub floor_div : ℤ → ℕ → ℤ
floor_div (pos n) d = pos (n / d)
floor_div (negsuc n) d = negsuc (n / d)

-- what is left of t
abbrev pub floor_mod : ℤ → ℕ → ℕ
floor_mod (pos n) d = n % d
floor_mod (negsuc n) d = d - 1 - n % d

-- a second has 10,000,000 ticks
unfoldable pub split_of : ℤ → Time
split_of t = record { seconds = floor_div t 10000000; ticks = floor_mod t 10000000 }
