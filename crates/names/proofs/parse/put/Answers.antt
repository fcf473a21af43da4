use mathlib.Core.Path.{sym}
use lib.Seq.{set_out}
use Rattle.names.proofs.parse.put.Goals as goal

pub returns-else-i-codes : goal.returns-else-i-codes
returns-else-i-codes c = sym (set_out _ _ _ c.if-i-codes.false)
