-- `images::level_size` meets its contract: 0 outside the bounds, and inside them the bytes of the halved sides. Assumes nothing.
use mathlib.Core.Path.{sym, ◌∙◌}
use native.Mathlib.Omega.{arith}
use Rattle.images.specs.Laws.{unlawful_size, lawful_size_lem}
use Rattle.images.proofs.level_size.Goals as goal

pub returns-then-format-gt18 : goal.returns-then-format-gt18
returns-then-format-gt18 c = sym (unlawful_size _ _ _ _ (λ b. omega arith))

pub returns-then-width-lt1 : goal.returns-then-width-lt1
returns-then-width-lt1 c = sym (unlawful_size _ _ _ _ (λ b. omega arith))

pub returns-then-width-gt4096 : goal.returns-then-width-gt4096
returns-then-width-gt4096 c = sym (unlawful_size _ _ _ _ (λ b. omega arith))

pub returns-then-height-lt1 : goal.returns-then-height-lt1
returns-then-height-lt1 c = sym (unlawful_size _ _ _ _ (λ b. omega arith))

pub returns-then-height-gt4096 : goal.returns-then-height-gt4096
returns-then-height-gt4096 c = sym (unlawful_size _ _ _ _ (λ b. omega arith))

pub returns-then-level-gt12 : goal.returns-then-level-gt12
returns-then-level-gt12 c = sym (unlawful_size _ _ _ _ (λ b. omega arith))

pub returns : goal.returns
returns c =
    c.level_bytes.ensures
    ∙ rw (c.halved.ensures, c.halved-2.ensures) (sym (lawful_size_lem _ _ _ _ (omega arith)))
