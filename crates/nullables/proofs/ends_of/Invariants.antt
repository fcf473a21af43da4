use Rattle.std.proofs.Common.{◌≡◌, ◌+◌, ◌*◌, ◌≤◌}
use Rattle.nullables.specs.Placed.{AllFit, place_of, row_of}
use Rattle.nullables.proofs.ends_of.Given as goal

abbrev pub invariant-loop-i : goal.invariant-loop-i
invariant-loop-i l = AllFit l.file l.s.kind l.s.size l.s.first l._i × (l.next ≡ place_of l.file l.s.size l.s.first l._i) × (l.last ≡ row_of l.file l.s.size l.s.first l.s.parent l._i) × (l.last ≤ l.s.parent + 2 * l._i)
