use mathlib.Core.Path.{◌∙◌}
use Rattle.pack_counts.specs.Count.{other_counted}
use Rattle.pack_counts.proofs.count_other.Goals as goal

pub returns : goal.returns
returns c = c.raise.ensures ∙ other_counted c.args.figures.now
