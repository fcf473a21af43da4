use mathlib.Core.Path.{sym, ap}
use Prim.Native.Nat.{ℕ, ◌%◌}
use lib.ListN.{get_or-eq_default}
use Rattle.targets.specs.Place.{kind_at}
use borrow.Author.Rules.{rules}
use Rattle.targets.proofs.kind_at.Goals as goal

pub returns-then-a-codes : goal.returns-then-a-codes
unfolding kind_at
returns-then-a-codes c = search rules

pub returns : goal.returns
unfolding kind_at
returns c = sym (ap (λ (x : ℕ). x % 64) (get_or-eq_default c.args.codes.now 0 c.if-a-codes.false))
