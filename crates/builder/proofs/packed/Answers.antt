use mathlib.Core.Path.{refl}
use Rattle.builder.specs.Packed.{code}
use borrow.Author.Rules.{rules}
use Rattle.builder.proofs.packed.Goals as goal

pub returns : goal.returns
unfolding code
returns c = refl
