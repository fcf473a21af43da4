use borrow.Author.Tests.{eq-eqb, ne_eqb}
use Rattle.targets.specs.Contract.{enum_word}
use Rattle.targets.proofs.enum_word.Goals as goal

pub returns-then-v-eq0 : goal.returns-then-v-eq0
unfolding enum_word
returns-then-v-eq0 c = rw (eq-eqb _ _ c.if-v-eq0.true)

pub returns : goal.returns
unfolding enum_word
returns c = rw (ne_eqb _ _ c.if-v-eq0.false)
