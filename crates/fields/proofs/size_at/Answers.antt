use mathlib.Core.Path.{ap, ◌∙◌}
use Prim.Native.Nat.{ℕ}
use borrow.Author.Tests.{eq-eqb, ne_eqb}
use Rattle.layout.specs.Slot.{multiple_of, uint_field}
use Rattle.reading.specs.Answer.{Answer}
use Rattle.fields.specs.Ruled.{ruled, numeric-ruled}
use Rattle.fields.proofs.size_at.Goals as goal

pub returns-then-flag-eq1 : goal.returns-then-flag-eq1
returns-then-flag-eq1 c =
    let a = c.args in
    rw (eq-eqb a.flag 1 c.if-flag-eq1.true)
    (c.multiple_of.ensures ∙ ap (λ (x : Answer ℕ). ruled (multiple_of 2) 4 a.at x) c.little.ensures ∙ numeric-ruled a.file.now uint_field 4 (multiple_of 2) a.at)

pub returns : goal.returns
returns c =
    let a = c.args in
    rw (ne_eqb a.flag 1 c.if-flag-eq1.false)
    (c.multiple_of-2.ensures ∙ ap (λ (x : Answer ℕ). ruled (multiple_of 4) 4 a.at x) c.little-2.ensures ∙ numeric-ruled a.file.now uint_field 4 (multiple_of 4) a.at)
