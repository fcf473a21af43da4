use mathlib.Core.Path.{◌≡◌}
use mathlib.Core.Bool.{false}
use Rattle.text.specs.Window.{AllFit}
use Rattle.text.proofs.fit.Given as goal

abbrev pub invariant-loop-j : goal.invariant-loop-j
invariant-loop-j l = (l.bad ≡ false → AllFit l.s l.at l.j)
