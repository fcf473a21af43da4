use Rattle.places.proofs.Laws.{has_detail, kind_null, kind_reference}
use Rattle.places.proofs.numbered.Goals as goal

pub returns-then-detail-ne0 : goal.returns-then-detail-ne0
returns-then-detail-ne0 c = let a = c.args in has_detail a.kind a.detail c.if-detail-ne0.true

pub returns-then-kind-eq-NULL : goal.returns-then-kind-eq-NULL
returns-then-kind-eq-NULL c = let a = c.args in kind_null a.kind a.detail c.if-detail-ne0.false c.if-kind-eq-NULL.true

pub returns : goal.returns
returns c = let a = c.args in kind_reference a.kind a.detail c.if-detail-ne0.false c.if-kind-eq-NULL.false
