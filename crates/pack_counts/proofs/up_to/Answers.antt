use Rattle.std.proofs.Common.{◌∙◌, arith}
use Rattle.pack_counts.specs.Raise.{held}
use Rattle.pack_counts.proofs.up_to.Goals as goal

pub returns : goal.returns
returns c = c.saturating_add.ensures ∙ held c.args.word c.args.by (omega arith)
