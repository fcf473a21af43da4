-- A stretch between two places, and its two words in the list. Assumes nothing.
use mathlib.Core.Path.{◌≡◌, sym, ap, ◌∙◌}
use mathlib.Core.List.{List, [], ◌∷◌, ◌++◌, append-nil}
use Prim.Native.Nat.{ℕ, suc, pred, ◌+◌, ◌*◌, ◌-◌, ◌≤◌, ◌<◌}
use native.Mathlib.Omega.{arith}
use lib.ListN.{length, take, drop, set, take-append-drop}
use lib.Seq.{sets-eq}
use borrow.Author.Tests.{le-leb}
use Rattle.fill.specs.Fill.{inside, pasted, copied}
use Rattle.layout.specs.Number.{little}
use Rattle.pack_salvage.specs.Stretches.{words}
use Rattle.salvage.specs.Salvaging.{gap, gap_of, GapFits, gap_put, count_put}

-- where something stands between
there : (from to : ℕ) → from < to → gap_of from to ≡ (from, to - from) ∷ []
there from to h = let z : to - from ≡ suc (pred (to - from)) = omega arith in ap (gap from) z ∙ ap (λ (n : ℕ). (from, n) ∷ []) (sym z)

not_there : (from to : ℕ) → to ≤ from → gap_of from to ≡ []
not_there from to h = let z : to - from ≡ 0 = omega arith in ap (gap from) z

pub one_gap : (from to : ℕ) → from < to → 1 ≡ length (gap_of from to)
one_gap from to h = rw (there from to h)

pub no_gap : (from to : ℕ) → to ≤ from → 0 ≡ length (gap_of from to)
no_gap from to h = rw (not_there from to h)

pub gap-none : (list : List ℕ) (n from to : ℕ) → to ≤ from → ◌≡◌ {A = ℕ × List ℕ} (n, list) (gap_put list n from to)
unfolding words
gap-none list n from to h =
    let z : n + 0 ≡ n = omega arith in
    let y : 2 * n + 0 ≡ 2 * n = omega arith in
    rw (not_there from to h, z, y, append-nil (take (2 * n) list), take-append-drop (2 * n) list)

pub gap_one : (list : List ℕ) (n from to : ℕ) → from < to → GapFits (length list) n from to
    → ◌≡◌ {A = ℕ × List ℕ} (n + 1, set (set list (2 * n) from) (2 * n + 1) (to - from)) (gap_put list n from to)
unfolding words
gap_one list n from to h fits =
    let s : set (set list (2 * n) from) (2 * n + 1) (to - from) ≡ take (2 * n) list ++ (from ∷ (to - from) ∷ []) ++ drop (2 * n + 2) list
    = two (sets-eq (from ∷ (to - from) ∷ []) list (2 * n) (fits h)) in
    rw (there from to h, s)
  where
    two : set (set list (2 * n) from) (suc (2 * n)) (to - from) ≡ take (2 * n) list ++ (from ∷ (to - from) ∷ []) ++ drop (2 * n + 2) list
        → set (set list (2 * n) from) (2 * n + 1) (to - from) ≡ take (2 * n) list ++ (from ∷ (to - from) ∷ []) ++ drop (2 * n + 2) list
    two e = let z : 2 * n + 1 ≡ suc (2 * n) = omega arith in rw z e

-- four bytes of a number
pub count_put_lem : (out : List ℕ) (n : ℕ) → 4 ≤ length out → copied out 0 (little 4 n) 0 4 ≡ count_put out n
unfolding little copied inside pasted
count_put_lem out n h = rw (le-leb 4 (length out) h)
