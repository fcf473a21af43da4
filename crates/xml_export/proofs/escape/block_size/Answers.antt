use Rattle.std.proofs.Common.{arith, ◌≡◌, ◌+◌}
use Rattle.laws.specs.Small.{neither}
use Rattle.xml_export.proofs.Escapes.{grows-more}
use Rattle.xml_export.proofs.escape.block_size.Goals as goal

pub loop-j-preserved : goal.loop-j-preserved
loop-j-preserved c = (
  omega (arith, c.loop-j.invariant.0, c.extra-more.ensures.1),
  λ e.
      let w = neither c.loop-j.other c.unsure-other.result e in
      let u = c.unsure-other.ensures w.1 in
      let z : c.loop-j.j + c.loop-j.more + 1 + c.extra-more.result ≡ c.loop-j.j + 1 + (c.loop-j.more + c.extra-more.result) = omega arith in
      rw z at (grows-more (c.loop-j.invariant.1 w.0) (omega (arith, c.loop-j-test.true, c.if-text-i-lt32.false, c.requires)) u.0 u.1 c.extra-more.result c.extra-more.ensures.0),
)
