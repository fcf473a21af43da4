-- `resources::any_of_eight` meets its contract: before each turn no row so far is a reference unless `found` says that one is. Assumes nothing.
use mathlib.Core.Path.{◌≡◌}
use mathlib.Core.Bool.{false}
use Prim.Native.Nat.{◌≤◌}
use Rattle.resources.specs.Total.{NoneAmong}
use Rattle.resources.proofs.any_of_eight.Given as goal

abbrev pub invariant-loop-j : goal.invariant-loop-j
invariant-loop-j l = (l.j ≤ 8) × (l.found ≡ false → NoneAmong l.table.grid l.table.words.now l.from l.j)
