-- `marks::walk` meets its contract: before each turn the first `i` files are read. Assumes nothing.
use Rattle.std.specs.Prelude.{List}
use Rattle.pack_layout.specs.Pack.{Stored, mark_of}
use Rattle.packs.specs.Walk.{Walked}
use Rattle.marks.proofs.walk.Given as goal

abbrev pub invariant-loop-i : goal.invariant-loop-i
invariant-loop-i l = (done : List Stored) × Walked (mark_of l.marked) l.pack l.n 4096 done l._i l.at
