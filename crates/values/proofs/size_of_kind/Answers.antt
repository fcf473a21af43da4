-- `values::size_of_kind` meets its contract: the constant array is the definition's table. Assumes nothing.
use Rattle.std.proofs.Common.{arith, ◌∙◌}
use Rattle.layout.specs.Fixed.{sizes}
use Rattle.values.proofs.size_of_kind.Goals as goal

pub returns-in-Some : goal.returns-in-Some
unfolding sizes
returns-in-Some c = c.wide.ensures.0 ∙ c.in-Some.ensures.lookup.4 (omega arith) 0

pub returns-in-None : goal.returns-in-None
unfolding sizes
returns-in-None c = c.in-None.ensures.lookup.4 (omega arith) 0
