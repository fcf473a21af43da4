use Rattle.names.specs.Kind.{listed}
use Rattle.names.proofs.tables.kind_of.Goals as goal

pub returns-then-own : goal.returns-then-own
unfolding listed
returns-then-own c = rw c.if-own.true c.reader_kind.ensures

pub returns : goal.returns
unfolding listed
returns c = rw c.if-own.false c.target_kind.ensures
