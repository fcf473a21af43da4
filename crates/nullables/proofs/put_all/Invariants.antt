use Rattle.std.proofs.Common.{◌≡◌}
use Rattle.nullables.specs.Placed.{place_of, row_of, put_all}
use Rattle.nullables.proofs.put_all.Given as goal

abbrev pub invariant-loop-i : goal.invariant-loop-i
invariant-loop-i l = (l.next ≡ place_of l.file l.s.size l.s.first l._i) × (l.number ≡ row_of l.file l.s.size l.s.first l.s.parent l._i) × (l.words ≡ put_all l.grid l.file l.s.kind l.s.size l.s.parent l.s.first l.s.parent l.initial.words l._i)
