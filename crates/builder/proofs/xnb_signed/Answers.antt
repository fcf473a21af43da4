use mathlib.Core.Path.{ap, ◌∙◌}
use Rattle.builder.specs.Told.{signed_told}
use borrow.Author.Rules.{rules}
use Rattle.builder.proofs.xnb_signed.Goals as goal

pub returns : goal.returns
returns c = c.tell_signed.ensures ∙ ap signed_told (rw (c.by_rows.ensures.0, c.by_rows.ensures.1) at c.signed.ensures)
