-- `values::left` meets its contract. Assumes nothing.
use Rattle.std.proofs.Common.{rules, length-drop}
use Rattle.values.proofs.left.Goals as goal

pub returns : goal.returns
returns c = rw length-drop (search rules)
