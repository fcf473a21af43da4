use Rattle.xml_export.specs.Contract.{Judged}
use Rattle.xml_export.specs.Judging.{judged_shared, judged-reader}
use Rattle.xml_export.proofs.is_list.Goals as goal

pub returns-then-shared-ne0 : goal.returns-then-shared-ne0
unfolding Judged
returns-then-shared-ne0 c = λ w. judged_shared w c.if-shared-ne0.true

pub returns : goal.returns
unfolding Judged
returns c = λ w. judged-reader w c.if-shared-ne0.false _ (rw (c.word-id.ensures, c.by_rows.ensures.1, c.by_rows.ensures.0) at c.texts_reader.ensures)
