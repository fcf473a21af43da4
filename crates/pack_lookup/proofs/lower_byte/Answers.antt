use Rattle.std.proofs.Common.{◌∙◌}
use Rattle.pack_lookup.proofs.Laws.{lower_is}
use Rattle.pack_lookup.proofs.lower_byte.Goals as goal

pub returns : goal.returns
returns c = c.to_ascii_lowercase.ensures.value ∙ lower_is c.args.b
