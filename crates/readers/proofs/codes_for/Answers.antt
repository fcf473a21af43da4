use Rattle.readers.specs.Left.{codes_for}
use Rattle.readers.specs.Room.{codes_for_lem}
use borrow.Author.Rules.{rules}
use Rattle.readers.proofs.codes_for.Goals as goal

pub returns-then-n-eq0 : goal.returns-then-n-eq0
unfolding codes_for
returns-then-n-eq0 c = rw c.if-n-eq0.true

pub returns : goal.returns
returns c = codes_for_lem _ c.if-n-eq0.false
