use Rattle.std.proofs.Common.{sym, ◌≤◌, ◌<◌, length, arith}
use Rattle.reading.specs.Reads.{small_by_index}
use Rattle.reading.specs.Seven.{seven_next}
use Rattle.sevens.proofs.list.Goals.{In-Ok}
use Rattle.sevens.proofs.list.Given.{Over}
use Rattle.sevens.proofs.list.Goals as goal

-- the number read ends behind its start and inside the input
ahead : (g : Over) → (c : In-Ok g)
    → (c.loop-at.at < c.in-Ok.number.next)
    × (c.in-Ok.number.next ≤ length c.args.s.now)
ahead g c =
    let s = c.args.s.now in
    let n = seven_next s (small_by_index s (λ i h. omega (arith, c.type_inv.s i))) _ (sym c.in-Ok.ensures) in
    (n.0, n.1)

pub loop-at-smaller-in-Ok : goal.loop-at-smaller-in-Ok
loop-at-smaller-in-Ok g c = omega (arith, ahead g c)

pub loop-at-preserved-in-Ok : goal.loop-at-preserved-in-Ok
loop-at-preserved-in-Ok g c = omega (arith, ahead g c)
