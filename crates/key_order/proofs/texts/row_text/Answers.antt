use Rattle.key_order.specs.Behind.{text-raw, text-object}
use Rattle.key_order.proofs.texts.row_text.Goals as goal

pub returns-then-detail-eq0 : goal.returns-then-detail-eq0
returns-then-detail-eq0 c = let a = c.args in text-raw a.file.now a.first a.detail c.if-detail-eq0.true c.counted.ensures

pub returns : goal.returns
returns c = let a = c.args in text-object a.file.now a.first a.detail c.if-detail-eq0.false c.behind.ensures c.counted-2.ensures
