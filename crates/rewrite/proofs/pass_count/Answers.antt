use Rattle.rewrite.specs.Steps.{count_there, no_count}
use Rattle.rewrite.proofs.pass_count.Goals as goal

pub returns-then-kind-eq-STRING : goal.returns-then-kind-eq-STRING
returns-then-kind-eq-STRING c =
    λ base places whole p.
    let a = c.args in
    c.pass.ensures base places whole c.measure.ensures.value (rw (count_there a.file.now a.kind a.at c.if-kind-eq-STRING.true) at p)

pub returns : goal.returns
returns c =
    λ base places whole p.
    let a = c.args in
    rw (no_count a.file.now a.kind a.at c.if-kind-eq-STRING.false) at p
