-- `text::follows`: before each turn `j` bytes follow. Assumes nothing.
use Rattle.std.proofs.Common.{◌≡◌, true, drop}
use Rattle.reading.specs.Utf8.{least, most, follow}
use Rattle.text.proofs.follows.Given as goal

abbrev pub invariant-loop-j : goal.invariant-loop-j
invariant-loop-j g l = follow l.j (least l.b) (most l.b) (drop l.i l.s) ≡ true
