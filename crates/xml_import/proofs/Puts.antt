-- Runs of a text put into an output. Assumes nothing.
use mathlib.Core.Path.{◌≡◌}
use mathlib.Core.List.{List}
use Prim.Native.Nat.{ℕ, ◌+◌, ◌-◌, ◌≤◌, ◌<◌}
use native.Mathlib.Omega.{arith}
use lib.ListN.{length, take, drop}
use Rattle.fill.specs.Fill.{copied}
use Rattle.xml_escape.specs.Wrote.{Put, put_copy, put_on}
use Rattle.xml_import.specs.Places.{Before, Stops, RunPut}
use Rattle.xml_import.proofs.Marks.{stops_by, stops_on}

pub far_put : {s : List ℕ} {from to run : ℕ} {out out' : List ℕ} → Stops s from run → out' ≡ copied out to s from (run - from) → RunPut s from to out out' run
far_put {s} {from} {to} {run} t c = record { stops = t; put = put_copy s from (run - from) (omega (arith, t.passed.forward, t.passed.inside)) c }

-- a run of fewer than eight bytes
pub few_put : {s : List ℕ} {from to r : ℕ} {out out' : List ℕ} → Before s from 8 r → Put (take r (drop from s)) to out out' → r < 8 → from + 8 ≤ length s → RunPut s from to out out' (from + r)
few_put {s} {from} {to} {r} b p h l = let z : from + r - from ≡ r = omega arith in record { stops = stops_by b h l; put = rw z p }

-- eight bytes, and a run behind them
pub start-put : {s : List ℕ} {from to r run : ℕ} {out mid out' : List ℕ} → Before s from 8 r → Put (take r (drop from s)) to out mid → 8 ≤ r → from + 8 ≤ length s → RunPut s (from + 8) (to + 8) mid out' run → RunPut s from to out out' run
start-put {s} {from} {to} {r} {run} b p h l q =
    let z : r ≡ 8 = omega (arith, b.within) in
    let t = q.stops.passed in
    record { stops = stops_on b h l q.stops; put = put_on s from 8 t.forward t.inside (rw z at p) q.put }
