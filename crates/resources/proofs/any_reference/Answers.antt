-- `resources::any_reference` meets its contract: before each turn the rows from `i` on say whether there is one. Assumes nothing.
use mathlib.Core.Path.{sym, ◌∙◌}
use Rattle.resources.proofs.Unmarked.{any_found, any_turn, any_end}
use Rattle.resources.proofs.any_reference.Goals as goal

pub returns-then-word-eq-SHARED_REFERENCE : goal.returns-then-word-eq-SHARED_REFERENCE
returns-then-word-eq-SHARED_REFERENCE c = sym (any_found _ _ _ c.loop-i.i c.loop-i-test.true c.word.ensures c.if-word-eq-SHARED_REFERENCE.true) ∙ c.loop-i.invariant

pub loop-i-preserved : goal.loop-i-preserved
loop-i-preserved c = sym (any_turn _ _ _ c.loop-i.i c.loop-i-test.true c.word.ensures c.if-word-eq-SHARED_REFERENCE.false) ∙ c.loop-i.invariant

pub returns : goal.returns
returns c = sym (any_end _ _ _ c.loop-i.i c.loop-i-test.false) ∙ c.loop-i.invariant
