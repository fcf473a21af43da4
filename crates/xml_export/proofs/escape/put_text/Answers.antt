use native.Mathlib.Omega.{arith}
use lib.ListN.{length-set}
use Rattle.xml_export.proofs.Escapes.{putting_plain, putting_on, putting_entity, putting_end, rest-fits, byte_fits, no_further}
use Rattle.xml_export.proofs.escape.put_text.Goals as goal

pub put_entity-requires : goal.put_entity-requires
put_entity-requires c = omega (arith, byte_fits c.loop-i.invariant c.loop-i-test.true, c.loop-i.invariant.same_size, c.requires)

pub bounds-out-j : goal.bounds-out-j
bounds-out-j c = omega (arith, rest-fits c.loop-i.invariant, c.loop-i-test.true, c.loop-i.invariant.same_size, c.put_entity.auto.out, c.requires)

pub put_run-next-requires : goal.put_run-next-requires
put_run-next-requires c = (
  omega (arith, c.loop-i-test.true),
  simp length-set (omega (arith, rest-fits c.loop-i.invariant, c.loop-i-test.true, c.loop-i.invariant.same_size, c.put_entity.auto.out, c.requires)),
)

pub loop-i-preserved-in-None : goal.loop-i-preserved-in-None
loop-i-preserved-in-None c =
    putting_on c.loop-i.i c.loop-i.j (putting_plain c.loop-i.invariant c.loop-i-test.true c.in-None.ensures c.put_entity.auto.out) c.put_run-next.ensures c.put_run-next.auto.out

pub overflow_add-j-in-Some : goal.overflow_add-j-in-Some
overflow_add-j-in-Some c =
    omega (arith, no_further (putting_entity c.loop-i.invariant c.loop-i-test.true c.in-Some.ensures c.put_entity.auto.out), c.requires)

pub loop-i-preserved : goal.loop-i-preserved
loop-i-preserved c = putting_entity c.loop-i.invariant c.loop-i-test.true c.in-Some.ensures c.put_entity.auto.out

pub returns : goal.returns
returns c = putting_end c.loop-i.invariant c.loop-i-test.false
