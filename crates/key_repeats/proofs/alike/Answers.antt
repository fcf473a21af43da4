use Rattle.key_order.specs.Texts.{key_text}
use Rattle.key_repeats.specs.Steps.{alike_by}
use Rattle.key_repeats.proofs.alike.Goals as goal

pub returns : goal.returns
returns c =
    let k = c.args.keys in
    rw c.is_eq.ensures (alike_by (key_text k.file.now k.table.grid k.table.words.now k.rows.now) c.args.a c.args.b c.order.result c.order.ensures)
