use Rattle.std.proofs.Common.{refl, ap, ◌∙◌, arith, not}
use Rattle.std.proofs.Math.Bool.{not-not}
use Rattle.std.proofs.Math.Seq.{take_all}
use Rattle.layout.specs.Name.{all}
use Rattle.names.specs.Contract.{class}
use Rattle.names.proofs.Laws.{other_step}
use Rattle.names.proofs.bytes.all_in_class.Goals as goal

pub loop-b-init : goal.loop-b-init
unfolding all
loop-b-init c = refl

pub loop-b-preserved : goal.loop-b-preserved
loop-b-preserved c = rw c.has.ensures (other_step (class c.args.of) c.args.block.now c.loop-b.b-index c.loop-b.other (omega arith) c.loop-b.invariant)

pub returns : goal.returns
returns c =
    let b = c.args.block.now in
    ap not (c.loop-b.invariant ∙ rw (take_all c.loop-b.b-index b (omega arith))) ∙ not-not (all (class c.args.of) b)
