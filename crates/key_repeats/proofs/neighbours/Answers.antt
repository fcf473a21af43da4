use Rattle.std.proofs.Common.{ℕ, arith, get_or}
use Rattle.key_order.specs.Texts.{key_text}
use Rattle.key_repeats.specs.Hits.{no_neighbours}
use Rattle.key_repeats.specs.Gathered.{key_place}
use Rattle.key_repeats.specs.Steps.{neighbours_more, neighbours_all}
use Rattle.key_repeats.proofs.neighbours.Goals as goal

pub returns-then-n-le1 : goal.returns-then-n-le1
returns-then-n-le1 c =
    let a = c.args in
    no_neighbours (key_text a.keys.file.now a.keys.table.grid a.keys.table.words.now a.keys.rows.now) (key_place a.keys.table.grid a.keys.table.words.now a.keys.rows.now) (λ (k : ℕ). get_or a.order.now k 0) a.m a.m c.if-n-le1.true

pub loop-j-init : goal.loop-j-init
loop-j-init c =
    let a = c.args in
    no_neighbours (key_text a.keys.file.now a.keys.table.grid a.keys.table.words.now a.keys.rows.now) (key_place a.keys.table.grid a.keys.table.words.now a.keys.rows.now) (λ (k : ℕ). get_or a.order.now k 0) a.m 1 (omega arith)

pub loop-j-preserved : goal.loop-j-preserved
loop-j-preserved c =
    let a = c.args in
    neighbours_more a.keys.file.now a.keys.table.grid a.keys.table.words.now a.keys.rows.now a.order.now a.m c.loop-j.j c.loop-j.best c.neighbour_at.result c.lower-best.result c.lower-best.ensures c.loop-j.invariant c.neighbour_at.ensures

pub returns : goal.returns
returns c =
    let a = c.args in neighbours_all a.keys.file.now a.keys.table.grid a.keys.table.words.now a.keys.rows.now a.order.now a.m c.loop-j.j c.loop-j.best (omega arith) c.loop-j.invariant
