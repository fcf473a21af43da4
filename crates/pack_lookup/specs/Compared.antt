-- Some bytes of two paths, compared after lowering ASCII letters. Assumes nothing.
use Rattle.std.specs.Prelude.{◌≡◌, Bool, true, false, List, ℕ, ◌+◌, ◌≤◌, ◌<◌, get_or}
use Rattle.pack_layout.specs.Lookup.{lower}

-- the bytes with index k are the same
abbrev pub SameAt : (a b : List ℕ) (k : ℕ) → Type 0
SameAt a b k = lower (get_or a k 0) ≡ lower (get_or b k 0)

-- an index from i on, n in all, at which they differ
pub record Differs (a b : List ℕ) (i n : ℕ) : Type 0 where
  pub index : ℕ
  pub from : i ≤ index
  pub to : index < i + n
  pub unlike : SameAt a b index → ⊥

-- whether two paths differ in one of the n bytes from i on
pub record Compared (a b : List ℕ) (i n : ℕ) (r : Bool) : Type 0 where
  pub agree : r ≡ false → (k : ℕ) → i ≤ k → k < i + n → SameAt a b k
  pub differ : r ≡ true → Differs a b i n
