use Rattle.std.proofs.Common.{sym, ◌∙◌}
use Rattle.xml_import.proofs.Usual.{usual_alone, not_false}
use Rattle.xml_import.proofs.standing.unusual.Goals as goal

pub returns : goal.returns
returns c = λ e. usual_alone c.args.b (sym c.ordinary.ensures ∙ not_false c.ordinary.result e)
