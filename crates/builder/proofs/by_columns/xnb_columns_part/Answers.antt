use mathlib.Core.Path.{ap, ◌∙◌}
use Rattle.builder.specs.Told.{span_told}
use borrow.Author.Rules.{rules}
use Rattle.builder.proofs.by_columns.xnb_columns_part.Goals as goal

pub returns : goal.returns
returns c = c.tell_span.ensures ∙ ap span_told (rw (c.in_columns.ensures.0, c.in_columns.ensures.1) at c.part.ensures)
