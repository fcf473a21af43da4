-- A byte that a list has at a place, or has not. Assumes nothing.
use Rattle.std.proofs.Common.{◌≡◌, Some, None, Bool, true, false, refl, List, ℕ, ◌<◌, leb, length, get_or, slice_get}
use Rattle.std.proofs.lemmas.Option.{slice_get_within, get_or_from_slice_get, slice_get-get_or}
use Rattle.laws.specs.Small.{differ}
use Rattle.std.proofs.lemmas.Bool.{lt-leb, leb-false}

pub cut : (s : List ℕ) (i : ℕ) → slice_get s i ≡ None → leb (length s) i ≡ true
cut s i e = go (leb (length s) i) refl where
  go : (t : Bool) → leb (length s) i ≡ t → t ≡ true
  go true q = refl
  go false q = let g = slice_get-get_or s i 0 (leb-false (length s) i q) in differ cc

pub record Found (s : List ℕ) (i b : ℕ) : Type 0 where
  pub inside : i < length s
  pub not_cut : leb (length s) i ≡ false
  pub byte : get_or s i 0 ≡ b

pub found : (s : List ℕ) (i b : ℕ) → slice_get s i ≡ Some b → Found s i b
found s i b e =
    let l = slice_get_within s i b e in
    record { inside = l; not_cut = lt-leb (length s) i l; byte = get_or_from_slice_get s i b 0 e }
