-- The reader list in code, and the targets that it lists. Assumes nothing.
use Rattle.std.specs.Prelude.{◌≡◌, List, ℕ, ◌≤◌, ◌<◌, length, get_or}
use Rattle.layout.specs.Target.{Target, object}
use Rattle.targets.specs.Code.{Stands}
use Rattle.readers.specs.declared.Readers.{Readers}

-- reader i's target stands in the codes at its place
pub record Listed (file codes : List ℕ) (rd : Readers) (readers : List Target) : Type 0 where
  pub counts : rd.count ≡ length readers
  pub few : length readers ≤ 64
  pub stands : (i : ℕ) → i < length readers → Stands file codes (get_or rd.targets i 0) (get_or readers i object)
