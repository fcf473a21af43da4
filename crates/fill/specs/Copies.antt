-- A copy behind what is written. Assumes nothing.
use Rattle.std.specs.Prelude.{◌≡◌, true, List, ◌++◌, ℕ, ◌+◌, ◌≤◌, leb, length, take, drop}
use Rattle.std.proofs.Common.{sym, ap, ◌∙◌, arith, length-append, length-drop, drop-drop, le-leb}
use Rattle.std.proofs.Math.Seq.{take-append_seam, drop-append_seam}
use Rattle.fill.specs.Fill.{inside, pasted, copied}

-- an output that holds some bytes, and behind them what stood there before: a copy puts n more
pub copy-puts : (base done : List ℕ) (to : ℕ) → length done ≡ to → (src : List ℕ) (from n : ℕ) → to + n ≤ length base → from + n ≤ length src
    → copied (done ++ drop to base) to src from n ≡ (done ++ take n (drop from src)) ++ drop (to + n) base
unfolding inside copied pasted
copy-puts base done to long src from n h k =
    let l : length (done ++ drop to base) ≡ length base = omega (arith, length-append done (drop to base), length-drop to base) in
    let p : leb (to + n) (length (done ++ drop to base)) ≡ true = le-leb (to + n) (length (done ++ drop to base)) (omega arith) in
    let q : leb (from + n) (length src) ≡ true = le-leb (from + n) (length src) k in
    let a : take to (done ++ drop to base) ≡ done = rw (← long) (take-append_seam done (drop (length done) base)) in
    let b : drop (to + n) (done ++ drop to base) ≡ drop (to + n) base
    = sym (drop-drop n to (done ++ drop to base)) ∙ ap (drop n) (rw (← long) (drop-append_seam done (drop (length done) base))) ∙ drop-drop n to base in
    rw (p, q, a, b)
