use Rattle.layout.specs.Text.{ascii}
use Rattle.xml_layout.specs.Xml.{item_end}
use Rattle.xml_import.proofs.character.other_end.Goals as goal

pub returns : goal.returns
unfolding item_end ascii
returns c = c.matched_at.ensures
