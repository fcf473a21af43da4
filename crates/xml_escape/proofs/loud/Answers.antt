use Rattle.std.proofs.Common.{sym, ◌∙◌}
use Rattle.std.proofs.lemmas.Bool.{false≢true}
use Rattle.xml_escape.proofs.Quiets.{quiet_by, by_quiet}
use Rattle.xml_escape.proofs.loud.Goals as goal

pub returns : goal.returns
returns c = (λ e. quiet_by c.args.most c.args.b e, λ e q. false≢true (sym (by_quiet c.args.most c.args.b q) ∙ e))
