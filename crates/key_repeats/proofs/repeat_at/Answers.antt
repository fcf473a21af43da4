use Rattle.key_order.specs.Texts.{key_text}
use Rattle.key_repeats.specs.Gathered.{key_place}
use Rattle.key_repeats.specs.Steps.{no_repeat, a_repeat}
use Rattle.key_repeats.proofs.repeat_at.Goals as goal

pub returns-then-not-repeats_earlier : goal.returns-then-not-repeats_earlier
returns-then-not-repeats_earlier c =
    let a = c.args in no_repeat (key_text a.keys.file.now a.keys.table.grid a.keys.table.words.now a.keys.rows.now) (key_place a.keys.table.grid a.keys.table.words.now a.keys.rows.now) a.i c.repeats_earlier.ensures c.if-not-repeats_earlier.true

pub returns : goal.returns
returns c =
    let a = c.args in
    a_repeat (key_text a.keys.file.now a.keys.table.grid a.keys.table.words.now a.keys.rows.now) (key_place a.keys.table.grid a.keys.table.words.now a.keys.rows.now) a.i c.repeats_earlier.ensures c.if-not-repeats_earlier.false c.key_place.ensures
