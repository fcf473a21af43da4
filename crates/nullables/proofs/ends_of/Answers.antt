use Rattle.std.proofs.Common.{refl, arith}
use Rattle.nullables.specs.Placed.{place_of, row_of, seen_more}
use Rattle.nullables.proofs.ends_of.Goals as goal

pub loop-i-init : goal.loop-i-init
unfolding place_of row_of
loop-i-init c = (λ i h. absurd (omega arith), refl, refl, omega arith)

pub loop-i-preserved : goal.loop-i-preserved
loop-i-preserved c =
    let a = c.args in
    let v = seen_more a.file.now a.s.kind a.s.size a.most a.s.first a.s.parent c.loop-i._i c.loop-i.next c.loop-i.last _ c.value_bytes-bytes.result c.requires.1 c.loop-i.invariant.0 c.loop-i.invariant.1
    c.loop-i.invariant.2 c.wide-flag.ensures.0 c.value_bytes-bytes.ensures.0
    c.if-file-next.false c.if-flag-gt1.false (omega (arith, c.if-file-next-2.false)) c.if-most-file.false in
    (v.0, v.1, v.2, omega (arith, c.loop-i.invariant.3, c.if-flag-gt1.false))
