use Rattle.std.proofs.Common.{◌≡◌, false, ◌+◌, ◌*◌, ◌≤◌}
use Rattle.xml_export.specs.Escaping.{Grows}
use Rattle.xml_export.proofs.escape.block_size.Given as goal

abbrev pub invariant-loop-j : goal.invariant-loop-j
invariant-loop-j l = (l.more ≤ 5 * l.j) × (l.other ≡ false → Grows l.text l.i l.j (l.j + l.more))
