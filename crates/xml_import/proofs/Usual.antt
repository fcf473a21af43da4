-- ASCII characters that stand as they are. Assumes nothing.
use mathlib.Core.Path.{◌≡◌, refl, sym}
use mathlib.Core.Bool.{Bool, true, false, ◌||◌, ◌&&◌, not, false≢true}
use mathlib.Core.List.{List}
use Prim.Native.Nat.{ℕ, ◌+◌, ◌-◌, ◌≤◌}
use native.Mathlib.Omega.{arith}
use lib.Dec.{eqb, leb, ltb}
use lib.ListN.{length, get_or}
use borrow.Author.Tests.{eqb-false, ltb-false, leb-true}
use Rattle.laws.specs.Small.{neither, both}
use Rattle.xml_escape.specs.Runs.{First, all_on}
use Rattle.xml_escape.specs.Quiet.{Quiet, AllQuiet, Ran}
use Rattle.xml_import.specs.Places.{stands_alone}

pub usual_by : (b : ℕ) → (((((ltb b 0x20 || eqb b 0x22) || eqb b 0x26) || eqb b 0x3C) || eqb b 0x3E) || ltb 0x7F b) ≡ false → Quiet 0x7F b
usual_by b e =
    let n₅ = neither ((((ltb b 0x20 || eqb b 0x22) || eqb b 0x26) || eqb b 0x3C) || eqb b 0x3E) (ltb 0x7F b) e in
    let n₄ = neither (((ltb b 0x20 || eqb b 0x22) || eqb b 0x26) || eqb b 0x3C) (eqb b 0x3E) n₅.0 in
    let n₃ = neither ((ltb b 0x20 || eqb b 0x22) || eqb b 0x26) (eqb b 0x3C) n₄.0 in
    let n₂ = neither (ltb b 0x20 || eqb b 0x22) (eqb b 0x26) n₃.0 in
    let n₁ = neither (ltb b 0x20) (eqb b 0x22) n₂.0 in
    let l : b ≤ 0x7F = ltb-false 0x7F b n₅.1 in
    record {
      printing = ltb-false b 0x20 n₁.0;
      no_quote = eqb-false b 0x22 n₁.1;
      no_and = eqb-false b 0x26 n₂.1;
      no_less = eqb-false b 0x3C n₃.1;
      no_more = eqb-false b 0x3E n₄.1;
      no_top = λ q. omega arith;
      low = l;
    }

not_true : (a : Bool) → not a ≡ true → a ≡ false
not_true true e = absurd (false≢true e)
not_true false e = refl

pub not_false : (a : Bool) → not a ≡ false → a ≡ true
not_false true e = refl
not_false false e = absurd (false≢true (sym e))

pub usual_alone : (b : ℕ) → stands_alone b ≡ true → Quiet 0x7F b
unfolding stands_alone
usual_alone b e =
    let a₁ = both (leb 0x20 b) (leb b 0x7F && (not (eqb b 0x22) && (not (eqb b 0x26) && (not (eqb b 0x3C) && not (eqb b 0x3E))))) e in
    let a₂ = both (leb b 0x7F) (not (eqb b 0x22) && (not (eqb b 0x26) && (not (eqb b 0x3C) && not (eqb b 0x3E)))) a₁.1 in
    let a₃ = both (not (eqb b 0x22)) (not (eqb b 0x26) && (not (eqb b 0x3C) && not (eqb b 0x3E))) a₂.1 in
    let a₄ = both (not (eqb b 0x26)) (not (eqb b 0x3C) && not (eqb b 0x3E)) a₃.1 in
    let a₅ = both (not (eqb b 0x3C)) (not (eqb b 0x3E)) a₄.1 in
    let l : b ≤ 0x7F = leb-true b 0x7F a₂.0 in
    record {
      printing = leb-true 0x20 b a₁.0;
      no_quote = eqb-false b 0x22 (not_true (eqb b 0x22) a₃.0);
      no_and = eqb-false b 0x26 (not_true (eqb b 0x26) a₄.0);
      no_less = eqb-false b 0x3C (not_true (eqb b 0x3C) a₅.0);
      no_more = eqb-false b 0x3E (not_true (eqb b 0x3E) a₅.1);
      no_top = λ q. omega arith;
      low = l;
    }

pub quiet_first : {P Q : ℕ → Type 0} {most : ℕ} {s : List ℕ} {i n r : ℕ} → First P Q s i n r → ((b : ℕ) → P b → Quiet most b) → (r ≤ n) × AllQuiet most s i r
quiet_first {s = s} {i = i} w f = (w.within, λ k h. f (get_or s (i + k) 0) (w.before k h))

pub ran_by : {most : ℕ} {s : List ℕ} {i n : ℕ} → AllQuiet most s i n → i + n ≤ length s → Ran most s i (i + n)
ran_by {most} {s} {i} {n} q h = let z : i + n - i ≡ n = omega arith in record { forward = omega arith; inside = h; all = rw z q }

-- a run, and one behind it
pub ran_on : {most : ℕ} {s : List ℕ} {from i to : ℕ} → Ran most s from i → Ran most s i to → Ran most s from to
ran_on {most} {s} {from} {i} {to} a b =
    let z : i + (to - i) ≡ to = omega (arith, b.forward) in
    record { forward = omega (arith, a.forward, b.forward); inside = b.inside; all = rw z at (all_on (Quiet most) s from i a.forward a.all (to - i) b.all) }

-- n quiet bytes, and a run behind them
pub ran_past : {most : ℕ} {s : List ℕ} {i n r to : ℕ} → (r ≤ n) × AllQuiet most s i r → n ≤ r → i + n ≤ length s → Ran most s (i + n) to → Ran most s i to
ran_past {most} {s} {i} {n} {r} {to} q b l t = let z : r ≡ n = omega (arith, q.0) in ran_on (ran_by (rw z at q.1) l) t
