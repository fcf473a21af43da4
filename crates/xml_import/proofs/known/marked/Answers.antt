use Rattle.xml_import.proofs.Marks.{unmarked_by, marked_by}
use Rattle.xml_import.proofs.known.marked.Goals as goal

pub returns : goal.returns
returns c = (λ e. unmarked_by c.args.b e, λ e. marked_by c.args.b e)
