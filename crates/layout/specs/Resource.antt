-- Which resource ids a reference may have (01, refusals 16 and 17). Assumes nothing.
use Rattle.std.specs.Prelude.{◌≡◌, ◌⊎◌, ℕ, suc, ◌≤◌}
use Rattle.layout.specs.Tree.{Trees, count, kind_at}

-- under a shared count alone; 16: "resource id above the shared count"
abbrev pub Within : (shared : ℕ) → (wanted id : ℕ) → Type 0
Within shared wanted id = id ≤ shared

-- among the shared objects of a file; 01: "A .. resource id counts shared objects .. one more than a position, 0 means null"; 17: "resource of the wrong type (a null resource fits)"
pub record Resource (shared : Trees) (wanted id : ℕ) : Type 0 where
  pub within : id ≤ count shared
  pub fitting : (i : ℕ) → id ≡ suc i → (kind_at i shared ≡ 0) ⊎ (kind_at i shared ≡ wanted)
