-- The rule of the seventh word (02, Req 09), over rows that are numbered from 0, and over the words of a table. Assumes nothing.
use Rattle.std.specs.Prelude.{◌≡◌, cond, List, ℕ, zero, suc, ◌+◌, ◌<◌, eqb, get_or}
use Rattle.layout.specs.Table.{Shape, cell}

-- how many of n rows, from row `at` on, name a parent
unfoldable pub naming : (parent : ℕ → ℕ) (name at n : ℕ) → ℕ
naming parent name at zero = 0
naming parent name at (suc n) = cond (eqb (parent at) name) (suc (naming parent name (suc at) n)) (naming parent name (suc at) n)

-- n used rows that name a parent: the first is row `at`, "each other one stands the former's count further on", and the last one's count ends before row `end`
unfoldable pub Chain : (parent branch : ℕ → ℕ) (used name at n end : ℕ) → Type 0
Chain parent branch used name at zero end = at ≡ end
Chain parent branch used name at (suc n) end = (at < used) × (parent at ≡ name) × Chain parent branch used name (at + branch at) n end

-- by each row's number of children, the parent that it names, by its row number plus 1, and its count: how many rows it has with all below it
pub record Skips (children parent branch : ℕ → ℕ) (used : ℕ) : Type 0 where
  -- "the rows that name a used row as parent are as many as its children"
  pub many : (i : ℕ) → i < used → naming parent (suc i) 0 used ≡ children i
  -- "the first is the next row, each other one stands the former's count further on, and its own count ends with the last (1 if none)"
  pub chain : (i : ℕ) → i < used → Chain parent branch used (suc i) (suc i) (children i) (i + branch i)

-- the rows of the primary and the shared objects, which name no parent, follow each other too: they are so many, the first is row 0, each other one stands the former's count further on, and the last one's count ends with the last row
pub record Roots (parent branch : ℕ → ℕ) (used objects : ℕ) : Type 0 where
  pub many : naming parent 0 0 used ≡ objects
  pub chain : Chain parent branch used 0 0 objects used

-- a table with room for so many rows, of which so many are used, keeps the rule: a row's number of children, its parent and its count are its words 3, 4 and 6
abbrev pub TableSkips : Shape → (room : ℕ) (table : List ℕ) (used : ℕ) → Type 0
TableSkips s room table used = Skips (λ i. get_or table (cell s room i 3) 0) (λ i. get_or table (cell s room i 4) 0) (λ i. get_or table (cell s room i 6) 0) used

-- the rows of its objects, so many, follow each other
abbrev pub TableRoots : Shape → (room : ℕ) (table : List ℕ) (used objects : ℕ) → Type 0
TableRoots s room table used objects = Roots (λ i. get_or table (cell s room i 4) 0) (λ i. get_or table (cell s room i 6) 0) used objects
