use borrow.Author.Rules.{rules}
use Rattle.builder.proofs.FewRows.{few_enough}
use Rattle.builder.proofs.xnb_load.Goals as goal

pub returns : goal.returns
returns c = few_enough c.args.file.now c.load_few-few.ensures c.if-few-eq19.false
