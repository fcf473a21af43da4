-- `targets::head_at` meets its contract. Assumes nothing.
use Rattle.std.proofs.Common.{◌≡◌, sym, arith, length-take-le}
use Rattle.layout.specs.Name.{head_byte}
use Rattle.names.specs.Parse.{span}
use Rattle.names.specs.Sound.{span_le}
use Rattle.targets.specs.Code.{head_at}
use Rattle.targets.proofs.Loops.{part, part_is}
use Rattle.targets.proofs.head_at.Goals as goal

pub slice_bounds-result-end : goal.slice_bounds-result-end
unfolding part
slice_bounds-result-end c =
    let p = part c.args.file.now c.args.a in
    let e : c.run.result ≡ span head_byte p = rw c.min.ensures at c.run.ensures in
    rw c.min.ensures (sym (length-take-le c.run.result p (omega (arith, e, span_le head_byte p))))

pub returns : goal.returns
unfolding head_at part
returns c =
    let e = rw c.min.ensures at c.run.ensures in
    rw (c.min.ensures, e, part_is c.args.file.now c.args.a)
