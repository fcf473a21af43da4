use Rattle.xml_export.proofs.Escapes.{alone_by}
use Rattle.xml_export.proofs.escape.signed.Goals as goal

pub returns : goal.returns
returns c = λ e. alone_by c.args.b e
