use Rattle.std.proofs.Common.{rules, of_calls}
use Rattle.number_rules.specs.Numbers.{without_id, with_id}
use Rattle.number_rules.proofs.value_numbers.Goals as goal

pub returns-then-not-numbered : goal.returns-then-not-numbered
returns-then-not-numbered c =
    let a = c.args in without_id a.file.now a.kind a.first a.detail c.numbered.result c.count_at.result c.numbered.ensures c.if-not-numbered.true c.count_at.ensures

pub returns : goal.returns
returns c =
    let a = c.args in
    with_id a.file.now a.kind a.first a.detail c.numbered.result c.numbered.ensures c.if-not-numbered.false c.number_at.ensures c.or_else.ensures (λ q. search (rules, of_calls))
