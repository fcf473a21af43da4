use Rattle.targets.specs.Place.{equal_at}
use Rattle.targets.proofs.Loops.{part, part_is}
use Rattle.targets.proofs.equal.Goals as goal

pub returns : goal.returns
unfolding equal_at part
returns c =
    let a = c.args in
    rw (← part_is a.codes.now a.a, ← part_is a.codes.now a.b, ← c.min.ensures, ← c.min-2.ensures) c.same_types.ensures
