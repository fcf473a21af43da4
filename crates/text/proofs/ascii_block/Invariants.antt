-- `text::ascii_block` meets its contract: before each turn the bytes so far are ASCII unless `other` says that one is not. Assumes nothing.
use mathlib.Core.Path.{◌≡◌}
use mathlib.Core.Bool.{false}
use Rattle.text.specs.Passed.{Ascii}
use Rattle.text.proofs.ascii_block.Given as goal

abbrev pub invariant-loop-j : goal.invariant-loop-j
invariant-loop-j l = (l.other ≡ false → Ascii l.s l.i l.j)
