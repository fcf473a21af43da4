-- A packed answer with few rows that is not 19 is the answer with all rows. Assumes nothing.
use mathlib.Core.Path.{◌≡◌, ap, ◌∙◌}
use mathlib.Core.List.{List, []}
use Prim.Native.Nat.{ℕ, ◌*◌, ◌/◌, ◌≤◌}
use native.Mathlib.Omega.{arith}
use Rattle.layout.specs.Rows.{width}
use Rattle.layout.specs.Table.{room_of}
use Rattle.reading.specs.File.{Load, refusal}
use Rattle.load.specs.Under.{load_under}
use Rattle.load_part.specs.Part.{same_answer}
use Rattle.builder.specs.Packed.{code, packed}

full : (x : Load) (place : ℕ) → x ≡ refusal 19 place → packed x / 4294967296 ≡ 19
unfolding packed code
full x place e = rw e (omega arith)

more_room : room_of (32 * width) ≤ room_of (1024 * width)
unfolding room_of
more_room = omega arith

pub few_enough : (file : List ℕ) {r : ℕ} → r ≡ packed (load_under [] file (32 * width)) → (r / 4294967296 ≡ 19 → ⊥) → r ≡ packed (load_under [] file (1024 * width))
few_enough file e n =
    e ∙ ap packed (same_answer [] file (32 * width) (1024 * width) more_room (λ p q. n (ap (λ (m : ℕ). m / 4294967296) e ∙ full (load_under [] file (32 * width)) p q)))
