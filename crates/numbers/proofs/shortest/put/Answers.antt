use mathlib.Core.Path.{refl}
use native.Mathlib.Omega.{arith}
use lib.ListN.{length-set}
use Rattle.layout.specs.Shortest.{shortest}
use Rattle.numbers.specs.Shortest.{rest_room, rest_more, rest_last}
use Rattle.numbers.proofs.shortest.put.Goals as goal

pub loop-x-init : goal.loop-x-init
unfolding shortest
loop-x-init c = (refl, record { groups = 5; some = omega arith; enough = omega arith; ends = refl; writes = refl })

pub bounds-out-i : goal.bounds-out-i
bounds-out-i c = omega (arith, rest_room c.loop-x.invariant.1, c.requires)

pub loop-x-preserved : goal.loop-x-preserved
loop-x-preserved c = (simp length-set c.loop-x.invariant.0, rest_more c.loop-x.invariant.1 c.loop-x-test.true)

pub bounds-out-i-2 : goal.bounds-out-i-2
bounds-out-i-2 c = omega (arith, rest_room c.loop-x.invariant.1, c.requires)

pub returns : goal.returns
returns c = (rest_last c.loop-x.invariant.1 c.loop-x-test.false).1
