use Rattle.xml_import.proofs.Runs.{stands-none, stands-ascii}
use Rattle.xml_import.proofs.standing.opening.Goals as goal

pub returns-then-xml-from-lt32 : goal.returns-then-xml-from-lt32
returns-then-xml-from-lt32 c = stands-none c.requires

pub returns-then-xml-from-gt127 : goal.returns-then-xml-from-gt127
returns-then-xml-from-gt127 c = stands-none c.requires

pub returns : goal.returns
returns c = stands-ascii c.usual_rest.ensures
