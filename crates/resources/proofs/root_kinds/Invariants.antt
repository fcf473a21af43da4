-- `resources::root_kinds` meets its contract: before each turn the kinds of the roots among the first `i` rows are found, as far as there is room. Assumes nothing.
use Rattle.resources.proofs.Noted.{Found}
use Rattle.resources.proofs.root_kinds.Given as goal

abbrev pub invariant-loop-i : goal.invariant-loop-i
invariant-loop-i l = Found l.table.grid l.table.words.now l.used l.kinds.items l.i
