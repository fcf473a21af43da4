use mathlib.Core.Path.{ap, ◌∙◌}
use Rattle.builder.specs.Told.{time_told}
use borrow.Author.Rules.{rules}
use Rattle.builder.proofs.xnb_time.Goals as goal

pub returns : goal.returns
returns c = c.tell_time.ensures ∙ ap time_told (rw (c.by_rows.ensures.0, c.by_rows.ensures.1) at c.time.ensures)
