use Rattle.std.proofs.Common.{arith}
use borrow.Author.Tests.{not-true}
use Rattle.salvage.proofs.Leads.{block}
use Rattle.salvage.proofs.is_clear.Goals as goal

pub returns : goal.returns
returns c = λ e. block c.args.pack.now c.args.from c.requires (λ k h. c.loop-i.invariant (not-true c.loop-i.found e) k (omega arith))
