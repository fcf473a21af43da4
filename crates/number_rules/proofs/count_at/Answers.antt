use Rattle.number_rules.specs.Numbers.{no_count, a_count}
use Rattle.number_rules.proofs.count_at.Goals as goal

pub returns-then-kind-ne-STRING : goal.returns-then-kind-ne-STRING
returns-then-kind-ne-STRING c = let a = c.args in no_count a.file.now a.kind a.at c.if-kind-ne-STRING.true

pub returns : goal.returns
returns c = let a = c.args in a_count a.file.now a.kind a.at c.if-kind-ne-STRING.false c.number_at.ensures
