use mathlib.Core.Bool.{false≢true}
use Rattle.text.proofs.short_ascii.Goals as goal

pub returns-then-n-lt4 : goal.returns-then-n-lt4
returns-then-n-lt4 c = λ e. absurd (false≢true e)

pub returns-then-n-lt8 : goal.returns-then-n-lt8
returns-then-n-lt8 c e = c.two_blocks.ensures e

pub returns-then-n-lt16 : goal.returns-then-n-lt16
returns-then-n-lt16 c e = c.two_blocks-then-n-lt16.ensures e

pub returns-then-n-le32 : goal.returns-then-n-le32
returns-then-n-le32 c e = c.two_blocks-then-n-le32.ensures e

pub returns : goal.returns
returns c = λ e. absurd (false≢true e)
