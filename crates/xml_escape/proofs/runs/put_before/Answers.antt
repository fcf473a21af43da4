use Rattle.std.proofs.Common.{◌≡◌, ◌+◌, arith, rules}
use Rattle.xml_escape.specs.Wrote.{put_next}
use Rattle.xml_escape.proofs.runs.put_before.Goals as goal

pub loop-k-preserved : goal.loop-k-preserved
loop-k-preserved g c =
    let z : 0 + c.loop-k.k ≡ c.loop-k.k = omega arith in
    record { before = search rules; put = rw z at (put_next c.args.s.now 0 c.loop-k.k (omega arith) c.loop-k.invariant.put) }
