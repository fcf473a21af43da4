use mathlib.Core.Path.{sym, ◌∙◌}
use Rattle.xml_import.proofs.Rows.{alone, not_alone}
use Rattle.xml_import.proofs.character.plain_at.Goals as goal

pub returns-then-ordinary : goal.returns-then-ordinary
returns-then-ordinary c = alone _ _ c.requires (sym c.if-ordinary.true ∙ c.ordinary.ensures)

pub returns-then-b-lt128 : goal.returns-then-b-lt128
returns-then-b-lt128 c = not_alone _ _ c.requires (sym c.if-ordinary.false ∙ c.ordinary.ensures) c.if-b-lt128.true
