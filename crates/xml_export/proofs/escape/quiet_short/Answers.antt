use Rattle.std.proofs.Common.{arith}
use Rattle.xml_export.proofs.escape.quiet_short.Goals as goal

pub returns-then-n-quiet_start : goal.returns-then-n-quiet_start
returns-then-n-quiet_start c = λ e k h. c.quiet_start.ensures k (omega (arith, h, c.if-n-quiet_start.true))
