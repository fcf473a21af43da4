use Rattle.names.proofs.Laws.{behind_end, behind_bracket, behind_other}
use Rattle.names.proofs.parse.behind_at.Goals as goal

pub returns-then-name-e : goal.returns-then-name-e
returns-then-name-e c = behind_end _ _ _ c.if-name-e.true

pub returns-then-name-e-eq93 : goal.returns-then-name-e-eq93
returns-then-name-e-eq93 c = behind_bracket _ _ _ c.if-name-e.false c.if-name-e-eq93.true

pub returns : goal.returns
returns c = behind_other _ _ _ c.if-name-e.false c.if-name-e-eq93.false
