-- Which entry of a table of any words a path matches (Req 01). Assumes nothing.
use Rattle.std.specs.Prelude.{◌≡◌, cond, List, [], ◌∷◌, ◌⊎◌, ℕ, ◌+◌, ◌≤◌, length, take, drop}
use Rattle.layout.specs.Number.{between}
use Rattle.pack_layout.specs.Table.{Entry}

-- Req 01: "lowering ASCII letters": 41 to 5A hex, A to Z
unfoldable pub lower : ℕ → ℕ
lower b = cond (between 0x41 0x5A b) (b + 32) b

unfoldable pub lowered : List ℕ → List ℕ
lowered [] = []
lowered (b ∷ bs) = lower b ∷ lowered bs

-- Req 01: "compares after lowering ASCII letters"; "an entry with path length 0, or with path or data past the pack, never matches"
pub record Matches (file path : List ℕ) (e : Entry) : Type 0 where
  pub named : 1 ≤ e.path_length
  pub path_inside : e.path_start + e.path_length ≤ length file
  pub data_inside : e.data_start + e.data_length ≤ length file
  pub equal : lowered (take e.path_length (drop e.path_start file)) ≡ lowered path

module _ (file path : List ℕ) where
  -- no entry matches
  unfoldable pub NoMatch : List Entry → Type 0
  NoMatch [] = Unit {0}
  NoMatch (e ∷ es) = (Matches file path e → ⊥) × NoMatch es

  -- the first entry that matches has its data at this place
  unfoldable pub FirstMatch : List Entry → (first count : ℕ) → Type 0
  FirstMatch [] first count = ⊥
  FirstMatch (e ∷ es) first count =
      (Matches file path e × (first ≡ e.data_start) × (count ≡ e.data_length)) ⊎ ((Matches file path e → ⊥) × FirstMatch es first count)

-- the data of a file, or nothing
pub data Content : Type 0 where
  missing : Content
  content : List ℕ → Content
