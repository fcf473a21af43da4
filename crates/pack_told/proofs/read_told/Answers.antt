use Rattle.std.proofs.Common.{ap, ◌∙◌}
use Rattle.pack_told.specs.Told.{number_told}
use Rattle.pack_told.proofs.Laws.{read_is}
use Rattle.pack_told.proofs.read_told.Goals as goal

pub returns-clause-at_after : goal.returns-clause-at_after
returns-clause-at_after c = c.tell.ensures ∙ ap number_told c.read.ensures.value ∙ read_is _
