-- `resources::root_kinds` meets its contract: before each turn the kinds of the roots among the first `i` rows are found, as far as there is room. Assumes nothing.
use Rattle.resources.proofs.Noted.{found_none, found_more, found_all}
use Rattle.resources.proofs.root_kinds.Goals as goal

pub loop-i-init : goal.loop-i-init
loop-i-init c = rw c.new-kinds.ensures (found_none _ _ _)

pub loop-i-preserved : goal.loop-i-preserved
loop-i-preserved c = found_more _ _ _ _ _ c.loop-i.i c.loop-i-test.true c.loop-i.invariant c.note.ensures

pub returns : goal.returns
returns c = found_all _ _ _ _ _ c.loop-i-test.false c.loop-i.invariant
