use Rattle.std.proofs.Common.{refl}
use Rattle.xml_theorems.proofs.Trips.{not_imported, kept}
use Rattle.xml_theorems.proofs.export_then_import.Goals as goal

pub returns-in_err-n : goal.returns-in_err-n
returns-in_err-n c = not_imported c.in_err-n.ensures.exports_file refl

pub returns : goal.returns
returns c = kept c.in_ok-n.ensures.exports_file refl c.import_exact.ensures
