-- `pack_lookup::find` meets its contract: before each turn no entry before that of `file` matches. Assumes nothing.
use Rattle.std.specs.Prelude.{◌*◌}
use Rattle.pack_lookup.proofs.Laws.{Looking}
use Rattle.pack_lookup.proofs.find.Given as goal

abbrev pub invariant-loop-file : goal.invariant-loop-file
invariant-loop-file l = Looking l.pack l.table l.path (4 * l.file)
