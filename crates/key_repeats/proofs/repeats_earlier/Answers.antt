use Rattle.std.proofs.Common.{arith}
use Rattle.key_order.specs.Texts.{key_text}
use Rattle.key_repeats.specs.Steps.{none_more, earlier_found, earlier_none}
use Rattle.key_repeats.proofs.repeats_earlier.Goals as goal

pub loop-h-init : goal.loop-h-init
loop-h-init c = λ k l. absurd (omega arith)

pub returns-then-alike : goal.returns-then-alike
returns-then-alike c =
    let a = c.args in earlier_found (key_text a.keys.file.now a.keys.table.grid a.keys.table.words.now a.keys.rows.now) c.loop-h.h a.i a.i c.loop-h-test.true c.alike.ensures c.if-alike.true

pub loop-h-preserved : goal.loop-h-preserved
loop-h-preserved c =
    let a = c.args in none_more (key_text a.keys.file.now a.keys.table.grid a.keys.table.words.now a.keys.rows.now) c.loop-h.h a.i c.loop-h.invariant c.alike.ensures c.if-alike.false

pub returns : goal.returns
returns c =
    let a = c.args in earlier_none (key_text a.keys.file.now a.keys.table.grid a.keys.table.words.now a.keys.rows.now) c.loop-h.h a.i a.i c.loop-h-test.false c.loop-h.invariant
