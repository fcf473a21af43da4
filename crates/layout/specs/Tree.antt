-- Trees of values (01, "The row table"). Assumes nothing.
use Rattle.std.specs.Prelude.{cond, ◌||◌, List, ℕ, zero, suc, ◌+◌, max, eqb}
use Rattle.layout.specs.Number.{value_of}

-- Trees in order: none, or a first tree and the rest. 01: "A tree is a value with all below it: its kind, its type id or resource id (else 0), its own bytes and its children as trees, in order".
pub data Trees : Type 0 where
  none : Trees
  tree : (kind id : ℕ) (own : List ℕ) (children : Trees) (rest : Trees) → Trees

-- how many trees stand in order
unfoldable pub count : Trees → ℕ
count none = 0
count (tree k i own cs rest) = suc (count rest)

-- how many values there are with all below them; 01: "each tree in it is one row"
unfoldable pub size : Trees → ℕ
size none = 0
size (tree k i own cs rest) = suc (size cs) + size rest

-- 01: "a child one more than its parent"
unfoldable pub depth : Trees → ℕ
depth none = 0
depth (tree k i own cs rest) = max (suc (depth cs)) (depth rest)

-- the tree at a position, counted from 0: its kind and its children
unfoldable pub kind_at : ℕ → Trees → ℕ
kind_at i none = 0
kind_at zero (tree k d own cs rest) = k
kind_at (suc i) (tree k d own cs rest) = kind_at i rest

unfoldable pub children_at : ℕ → Trees → Trees
children_at i none = none
children_at zero (tree k d own cs rest) = cs
children_at (suc i) (tree k d own cs rest) = children_at i rest

-- the value of the first of some trees, if it is a UInt32
unfoldable pub first_value : Trees → ℕ
first_value none = 0
first_value (tree k i own cs rest) = cond (eqb k 6) (value_of own) 0

-- the number that a value tells those behind it: a UInt32 its value, a Boolean 0 or 1, a vertex declaration its stride, which is its first field, all else 0
unfoldable pub told : (kind : ℕ) (own : List ℕ) (children : Trees) → ℕ
told kind own cs = cond (eqb kind 6 || eqb kind 11) (value_of own) (cond (eqb kind 38) (first_value cs) 0)

-- the number that the first of some trees tells
unfoldable pub told_of : Trees → ℕ
told_of none = 0
told_of (tree k i own cs rest) = told k own cs
