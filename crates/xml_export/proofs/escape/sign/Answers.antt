use Rattle.xml_export.proofs.Escapes.{letter_alone}
use Rattle.xml_export.proofs.escape.sign.Goals as goal

pub returns-then-b-gt62 : goal.returns-then-b-gt62
returns-then-b-gt62 c = λ e. letter_alone c.args.b c.if-b-gt62.true
