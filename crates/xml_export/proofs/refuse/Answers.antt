use mathlib.Core.Path.{refl}
use Rattle.xml_export.proofs.Codes.{clear_all}
use Rattle.xml_export.proofs.refuse.Goals as goal

pub returns : goal.returns
returns c = record { answers = refl; words = clear_all _ c.clear.ensures }
