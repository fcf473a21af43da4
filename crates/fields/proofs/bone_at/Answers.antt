use mathlib.Core.Path.{ap, ◌∙◌}
use Prim.Native.Nat.{ℕ}
use borrow.Author.Tests.{lt-ltb, le-ltb}
use Rattle.layout.specs.Slot.{at_most, bone_field}
use Rattle.reading.specs.Answer.{Answer}
use Rattle.fields.specs.Ruled.{ruled, numeric-ruled}
use Rattle.fields.proofs.bone_at.Goals as goal

pub returns-then-bones-lt255 : goal.returns-then-bones-lt255
returns-then-bones-lt255 c =
    let a = c.args in
    rw (lt-ltb a.bones 255 c.if-bones-lt255.true)
    (c.at_most.ensures ∙ ap (λ (x : Answer ℕ). ruled (at_most a.bones) 1 a.at x) c.little.ensures ∙ numeric-ruled a.file.now bone_field 1 (at_most a.bones) a.at)

pub returns : goal.returns
returns c =
    let a = c.args in
    rw (le-ltb a.bones 255 c.if-bones-lt255.false)
    (c.at_most-2.ensures ∙ ap (λ (x : Answer ℕ). ruled (at_most a.bones) 4 a.at x) c.little-2.ensures ∙ numeric-ruled a.file.now bone_field 4 (at_most a.bones) a.at)
