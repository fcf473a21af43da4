use Rattle.layout.specs.Text.{ascii}
use Rattle.xml_layout.specs.Xml.{item_start}
use Rattle.xml_import.proofs.character.other_start.Goals as goal

pub returns : goal.returns
unfolding item_start ascii
returns c = c.matched_at.ensures
