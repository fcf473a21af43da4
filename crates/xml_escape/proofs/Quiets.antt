-- Bytes that are written as they are, one after the other. Assumes nothing.
use mathlib.Core.Path.{◌≡◌, refl}
use mathlib.Core.Bool.{false, ◌||◌}
use mathlib.Core.List.{List}
use Prim.Native.Nat.{ℕ, ◌≤◌, ◌<◌}
use native.Mathlib.Omega.{arith}
use lib.Dec.{eqb, ltb}
use lib.ListN.{length, get_or}
use borrow.Author.Tests.{ne_eqb, eqb-false, ltb-false, le-ltb}
use Rattle.laws.specs.Small.{neither}
use Rattle.xml_escape.specs.Runs.{passed_none}
use Rattle.xml_escape.specs.Quiet.{Quiet, Ran, RunEnd}

-- ---- One byte

pub quiet_by : (most b : ℕ) → ((((((ltb b 0x20 || eqb b 0x22) || eqb b 0x26) || eqb b 0x3C) || eqb b 0x3E) || eqb b 0xEF) || ltb most b) ≡ false → Quiet most b
quiet_by most b e =
    let n₆ = neither (((((ltb b 0x20 || eqb b 0x22) || eqb b 0x26) || eqb b 0x3C) || eqb b 0x3E) || eqb b 0xEF) (ltb most b) e in
    let n₅ = neither ((((ltb b 0x20 || eqb b 0x22) || eqb b 0x26) || eqb b 0x3C) || eqb b 0x3E) (eqb b 0xEF) n₆.0 in
    let n₄ = neither (((ltb b 0x20 || eqb b 0x22) || eqb b 0x26) || eqb b 0x3C) (eqb b 0x3E) n₅.0 in
    let n₃ = neither ((ltb b 0x20 || eqb b 0x22) || eqb b 0x26) (eqb b 0x3C) n₄.0 in
    let n₂ = neither (ltb b 0x20 || eqb b 0x22) (eqb b 0x26) n₃.0 in
    let n₁ = neither (ltb b 0x20) (eqb b 0x22) n₂.0 in
    record {
      printing = ltb-false b 0x20 n₁.0;
      no_quote = eqb-false b 0x22 n₁.1;
      no_and = eqb-false b 0x26 n₂.1;
      no_less = eqb-false b 0x3C n₃.1;
      no_more = eqb-false b 0x3E n₄.1;
      no_top = eqb-false b 0xEF n₅.1;
      low = ltb-false most b n₆.1;
    }

pub by_quiet : (most b : ℕ) → Quiet most b → ((((((ltb b 0x20 || eqb b 0x22) || eqb b 0x26) || eqb b 0x3C) || eqb b 0x3E) || eqb b 0xEF) || ltb most b) ≡ false
by_quiet most b q =
    rw (
      le-ltb b 0x20 q.printing,
      ne_eqb b 0x22 q.no_quote,
      ne_eqb b 0x26 q.no_and,
      ne_eqb b 0x3C q.no_less,
      ne_eqb b 0x3E q.no_more,
      ne_eqb b 0xEF q.no_top,
      le-ltb most b q.low,
    )

-- ---- Runs

-- where a run ends
pub ends_at : {most : ℕ} {s : List ℕ} {from i : ℕ} → Ran most s from i → (i < length s → Quiet most (get_or s i 0) → ⊥) → RunEnd most s from i
ends_at {s = s} r f = record { run = λ h. r; other = f; stays = λ h. absurd (omega (arith, r.forward, r.inside)) }

pub past_end : {most : ℕ} {s : List ℕ} {from : ℕ} → length s ≤ from → RunEnd most s from from
past_end h = record { run = λ k. passed_none k; other = λ k. absurd (omega arith); stays = λ k. refl }
