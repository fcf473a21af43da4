use Rattle.std.proofs.Common.{◌∙◌}
use Rattle.pack_files.specs.Xnb.{starts_so}
use Rattle.pack_files.proofs.is_xnb.Goals as goal

pub returns : goal.returns
returns c = c.starts_with.ensures.value ∙ starts_so c.args.content.now
