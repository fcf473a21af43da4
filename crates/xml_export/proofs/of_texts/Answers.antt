use Rattle.xml_export.specs.Primary.{OfTexts}
use Rattle.xml_export.proofs.Codes.{no_array, array_by}
use mathlib.Core.Path.{sym, ◌∙◌}
use Rattle.xml_export.proofs.of_texts.Goals as goal

pub returns-then-kind_at-ne-ARRAY_KIND : goal.returns-then-kind_at-ne-ARRAY_KIND
unfolding OfTexts
returns-then-kind_at-ne-ARRAY_KIND c = λ file t s. no_array s (λ e. c.if-kind_at-ne-ARRAY_KIND.true (c.kind_at.ensures ∙ e))

pub returns : goal.returns
unfolding OfTexts
returns c = λ file t s. rw c.kind_at-2.ensures (array_by s (sym c.kind_at.ensures ∙ c.if-kind_at-ne-ARRAY_KIND.false))
