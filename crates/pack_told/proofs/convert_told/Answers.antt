use Rattle.std.proofs.Common.{ap, ◌∙◌}
use Rattle.pack_told.specs.Told.{number_told}
use Rattle.pack_told.proofs.Laws.{written_is}
use Rattle.pack_told.proofs.convert_told.Goals as goal

pub returns-clause-at_after : goal.returns-clause-at_after
returns-clause-at_after c = c.tell.ensures ∙ ap number_told c.convert.ensures.value ∙ written_is _
