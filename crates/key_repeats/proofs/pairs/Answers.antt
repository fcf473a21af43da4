use Rattle.std.proofs.Common.{arith}
use Rattle.key_order.specs.Texts.{key_text}
use Rattle.key_repeats.specs.Hits.{no_pairs}
use Rattle.key_repeats.specs.Gathered.{key_place}
use Rattle.key_repeats.specs.Steps.{pairs-more, pairs_all}
use Rattle.key_repeats.proofs.pairs.Goals as goal

pub loop-i-init : goal.loop-i-init
loop-i-init c = let a = c.args in no_pairs (key_text a.keys.file.now a.keys.table.grid a.keys.table.words.now a.keys.rows.now) (key_place a.keys.table.grid a.keys.table.words.now a.keys.rows.now)

pub loop-i-preserved : goal.loop-i-preserved
loop-i-preserved c =
    let a = c.args in
    let texts = key_text a.keys.file.now a.keys.table.grid a.keys.table.words.now a.keys.rows.now in
    let places = key_place a.keys.table.grid a.keys.table.words.now a.keys.rows.now in
    pairs-more texts places c.loop-i.i c.loop-i.best c.repeat_at.result c.lower-best.result c.lower-best.ensures c.loop-i.invariant c.repeat_at.ensures

pub returns : goal.returns
returns c =
    let a = c.args in pairs_all (key_text a.keys.file.now a.keys.table.grid a.keys.table.words.now a.keys.rows.now) (key_place a.keys.table.grid a.keys.table.words.now a.keys.rows.now) c.loop-i.i a.m c.loop-i.best (omega arith) c.loop-i.invariant
