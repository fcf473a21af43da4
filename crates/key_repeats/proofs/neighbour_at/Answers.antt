use Rattle.key_repeats.specs.Steps.{second-outside, second_other, second_same}
use Rattle.key_repeats.proofs.neighbour_at.Goals as goal

pub returns-then-m-b : goal.returns-then-m-b
returns-then-m-b c = let a = c.args in second-outside a.keys.file.now a.keys.table.grid a.keys.table.words.now a.keys.rows.now a.order.now a.m a.j c.ordered_at-b.ensures c.if-m-b.true

pub returns-then-not-alike : goal.returns-then-not-alike
returns-then-not-alike c =
    let a = c.args in
    second_other a.keys.file.now a.keys.table.grid a.keys.table.words.now a.keys.rows.now a.order.now a.m a.j c.ordered_at-b.ensures c.ordered_at-a.ensures c.alike.ensures c.if-not-alike.true

pub returns : goal.returns
returns c =
    let a = c.args in
    second_same a.keys.file.now a.keys.table.grid a.keys.table.words.now a.keys.rows.now a.order.now a.m a.j c.ordered_at-b.ensures c.if-m-b.false c.ordered_at-a.ensures c.alike.ensures c.if-not-alike.false c.key_place.ensures
