use Rattle.std.proofs.Common.{refl, sym, ◌∙◌, arith}
use Rattle.pack_sums.specs.Sum.{fits_from, fits_ends, fits_on, fits_not}
use Rattle.pack_sums.proofs.fits_all.Goals as goal

pub loop-i-init : goal.loop-i-init
unfolding fits_from
loop-i-init c = refl

pub returns-then-into-i : goal.returns-then-into-i
returns-then-into-i c =
    let a = c.args in
    fits_not c.loop-i.i a.into.now a.other.now (omega arith) (omega arith) c.if-into-i.true ∙ sym c.loop-i.invariant

pub loop-i-preserved : goal.loop-i-preserved
loop-i-preserved c =
    let a = c.args in
    c.loop-i.invariant ∙ fits_on c.loop-i.i a.into.now a.other.now (omega arith) (omega arith) c.if-into-i.false (omega (arith, c.type_inv.into c.loop-i.i))

pub returns : goal.returns
returns c = let a = c.args in sym (c.loop-i.invariant ∙ fits_ends c.loop-i.i a.into.now a.other.now (omega arith))
