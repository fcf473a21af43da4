use Rattle.layout.specs.Table.{cell}
use Rattle.table.proofs.Grid.cell.Goals as goal

pub returns-then-self : goal.returns-then-self
unfolding cell
returns-then-self c = rw (c.if-self.true, c.product-column.ensures.0)

pub returns : goal.returns
unfolding cell
returns c = rw c.if-self.false
