use mathlib.Core.Path.{◌∙◌}
use Rattle.salvage.proofs.Gaps.{count_put_lem}
use Rattle.salvage.proofs.put_count.Goals as goal

pub returns : goal.returns
returns c = c.put4.ensures ∙ count_put_lem _ _ c.requires
