use mathlib.Core.Path.{ap, ◌∙◌}
use Rattle.builder.specs.Told.{span_told}
use borrow.Author.Rules.{rules}
use Rattle.builder.proofs.xnb_text.Goals as goal

pub returns : goal.returns
returns c = c.tell_span.ensures ∙ ap span_told (rw (c.by_rows.ensures.0, c.by_rows.ensures.1) at c.text.ensures)
