-- Bytes that start no entity and no end of an item, one after the other. Assumes nothing.
use mathlib.Core.Path.{◌≡◌, refl}
use mathlib.Core.Bool.{Bool, true, false, ◌||◌}
use mathlib.Core.List.{List}
use mathlib.Core.Logic.{◌⊎◌, inl, inr}
use Prim.Native.Nat.{ℕ, ◌+◌, ◌-◌, ◌≤◌, ◌<◌}
use native.Mathlib.Omega.{arith}
use lib.Dec.{eqb}
use lib.ListN.{length}
use borrow.Author.Tests.{eqb-true, eqb-false}
use Rattle.laws.specs.Small.{neither}
use Rattle.xml_escape.specs.Runs.{passed_none, passed_more}
use Rattle.xml_import.specs.Places.{Unmarked, Marked, Before, Passed, Stops}

pub unmarked_by : (b : ℕ) → (eqb b 0x26 || eqb b 0x3C) ≡ false → Unmarked b
unmarked_by b e = let n = neither (eqb b 0x26) (eqb b 0x3C) e in record { no_and = eqb-false b 0x26 n.0; no_less = eqb-false b 0x3C n.1 }

pub marked_by : (b : ℕ) → (eqb b 0x26 || eqb b 0x3C) ≡ true → Marked b
unfolding Marked
marked_by b e = go (eqb b 0x26) refl e where
  go : (t : Bool) → eqb b 0x26 ≡ t → (t || eqb b 0x3C) ≡ true → (b ≡ 0x26) ⊎ (b ≡ 0x3C)
  go true q e = inl (eqb-true b 0x26 q)
  go false q e = inr (eqb-true b 0x3C e)

-- no byte is both
pub not_both : (b : ℕ) → Unmarked b → Marked b → ⊥
unfolding Marked
not_both b u (inl e) = u.no_and e
not_both b u (inr e) = u.no_less e

-- where a run ends
pub stops_by : {s : List ℕ} {i n r : ℕ} → Before s i n r → r < n → i + n ≤ length s → Stops s i (i + r)
stops_by {s} {i} {n} {r} b h l = record { passed = passed_more (passed_none (omega arith)) r (omega (arith, b.within)) b.before; marked = λ g. b.there h }

-- a run, and r of n bytes behind it
pub stops_past : {s : List ℕ} {from i n r : ℕ} → Passed s from i → Before s i n r → r < n → i + n ≤ length s → Stops s from (i + r)
stops_past p b h l = record { passed = passed_more p _ (omega (arith, b.within)) b.before; marked = λ g. b.there h }

-- a run to the end, or to the first that is marked
pub stops_here : {s : List ℕ} {from i r : ℕ} → Passed s from i → Before s i (length s - i) r → Stops s from (i + r)
stops_here p b = record { passed = passed_more p _ (omega (arith, b.within, p.inside)) b.before; marked = λ g. b.there (omega arith) }

-- all n bytes, and a run behind them
pub stops_on : {s : List ℕ} {i n r to : ℕ} → Before s i n r → n ≤ r → i + n ≤ length s → Stops s (i + n) to → Stops s i to
stops_on {s} {i} {n} {r} {to} b h l t =
    let z : r ≡ n = omega (arith, b.within) in
    let p : Passed s i (i + n) = passed_more (passed_none (omega arith)) n l (rw z at b.before) in
    let y : i + n + (to - (i + n)) ≡ to = omega (arith, t.passed.forward) in
    record { passed = rw y at (passed_more p (to - (i + n)) (omega (arith, t.passed.forward, t.passed.inside)) t.passed.all); marked = t.marked }
