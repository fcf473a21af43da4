use Rattle.std.specs.Prelude.{◌≡◌}
use Rattle.std.proofs.Common.{arith}
use Rattle.pack_lookup.proofs.Laws.{none_compared, one_more}
use Rattle.pack_lookup.proofs.differ.Goals as goal

pub loop-j-init : goal.loop-j-init
loop-j-init c = none_compared _ _ _

pub loop-j-preserved : goal.loop-j-preserved
loop-j-preserved c =
    let a = c.args in
    one_more a.a.now a.b.now a.i c.loop-j.j c.loop-j.other c.lower_byte.ensures c.lower_byte-in-loop-j.ensures c.loop-j.invariant

pub returns : goal.returns
returns c =
    let e : c.loop-j.j ≡ c.args.n = omega arith in
    rw e at c.loop-j.invariant
