use borrow.Author.Rules.{rules}
use Rattle.builder.proofs.by_columns.xnb_columns_next.Goals as goal

pub returns : goal.returns
returns c = rw (c.in_columns.ensures.0, c.in_columns.ensures.1) at c.next.ensures
