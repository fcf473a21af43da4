use native.Mathlib.Omega.{arith}
use Rattle.xml_import.proofs.Runs.{stands-none, stands-ascii}
use Rattle.xml_import.proofs.standing.standing.Goals as goal

pub returns-then-xml-from-eq60 : goal.returns-then-xml-from-eq60
returns-then-xml-from-eq60 c = stands-none (omega (arith, c.requires))

pub returns-then-xml-from-lt128 : goal.returns-then-xml-from-lt128
returns-then-xml-from-lt128 c = stands-ascii c.usual_run.ensures
