-- `pack_lookup::differ` meets its contract: before each turn `other` tells of the first `j` bytes. Assumes nothing.
use Rattle.pack_lookup.specs.Compared.{Compared}
use Rattle.pack_lookup.proofs.differ.Given as goal

abbrev pub invariant-loop-j : goal.invariant-loop-j
invariant-loop-j l = Compared l.a l.b l.i l.j l.other
