use mathlib.Core.Path.{ap, ◌∙◌}
use Prim.Native.Nat.{ℕ}
use Rattle.layout.specs.Slot.{at_most, code_field}
use Rattle.reading.specs.Answer.{Answer}
use Rattle.fields.specs.Ruled.{ruled, numeric-ruled}
use Rattle.fields.proofs.code_at.Goals as goal

pub returns : goal.returns
returns c =
    let a = c.args in
    c.at_most.ensures ∙ ap (λ (x : Answer ℕ). ruled (at_most a.last) 4 a.at x) c.little.ensures ∙ numeric-ruled a.file.now code_field 4 (at_most a.last) a.at
