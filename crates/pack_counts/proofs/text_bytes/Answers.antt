use Rattle.pack_counts.specs.Count.{text-plain, text-object}
use Rattle.pack_counts.proofs.text_bytes.Goals as goal

pub returns-then-id-eq0 : goal.returns-then-id-eq0
returns-then-id-eq0 c = let a = c.args in rw (text-plain a.file.now a.first c.if-id-eq0.true) c.number_at.ensures

pub returns : goal.returns
returns c = let a = c.args in rw (text-object a.file.now a.first a.id c.if-id-eq0.false, ← c.behind.ensures) c.number_at-2.ensures
