-- `packs::ascii_blocks` meets its contract: before each turn the bytes so far are ASCII unless `other` says that one is not. Assumes nothing.
use Rattle.std.specs.Prelude.{◌≡◌, false}
use Rattle.text.specs.Passed.{Ascii}
use Rattle.packs.proofs.ascii_blocks.Given as goal

abbrev pub invariant-loop-j : goal.invariant-loop-j
invariant-loop-j l = l.other ≡ false → Ascii l.s l.i l.j × Ascii l.s l.k l.j
