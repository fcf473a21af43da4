use Rattle.std.proofs.Common.{refl}
use Rattle.xml_theorems.proofs.Trips.{not_exported, same}
use Rattle.xml_theorems.proofs.import_then_export.Goals as goal

pub returns-in_err-n : goal.returns-in_err-n
returns-in_err-n c = not_exported c.in_err-n.ensures refl

pub returns : goal.returns
returns c = same c.in_ok-n.ensures refl c.export_exact.ensures.exports_file
