use mathlib.Core.Path.{refl}
use Rattle.xml_import.proofs.Texts.{start, ends}
use Rattle.xml_import.proofs.text_at.Goals as goal

pub returns-then-ends_at : goal.returns-then-ends_at
returns-then-ends_at c = ends (start c.requires) (c.ends_at.ensures c.if-ends_at.true) refl
