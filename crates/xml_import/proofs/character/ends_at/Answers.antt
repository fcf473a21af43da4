use Rattle.std.proofs.Common.{refl}
use Rattle.xml_import.proofs.Words.{end-stands}
use Rattle.xml_import.proofs.character.ends_at.Goals as goal

pub returns-then-four_at : goal.returns-then-four_at
returns-then-four_at c = λ e. end-stands c.args.xml.now c.args.at c.requires (c.if-four_at.ensures refl) (c.four_at-then-four_at.ensures e)
