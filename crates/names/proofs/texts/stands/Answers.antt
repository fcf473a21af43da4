use Rattle.std.proofs.Common.{◌∙◌}
use Rattle.names.proofs.Laws.{rest, starts_are}
use Rattle.names.proofs.texts.stands.Goals as goal

pub returns : goal.returns
returns c = c.starts_with.ensures.value ∙ rw (rest c.args.s.now c.args.at) (starts_are c.args.text.now _)
