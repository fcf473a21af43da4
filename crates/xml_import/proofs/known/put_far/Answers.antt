use Rattle.xml_import.proofs.Puts.{far_put}
use Rattle.xml_import.proofs.known.put_far.Goals as goal

pub returns : goal.returns
returns c = far_put c.unmarked_rest-run.ensures c.copy.ensures.out_after
