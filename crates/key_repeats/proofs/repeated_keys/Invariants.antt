use Rattle.key_repeats.specs.Steps.{SoFar}
use Rattle.key_repeats.proofs.repeated_keys.Given as goal

abbrev pub invariant-loop-row : goal.invariant-loop-row
invariant-loop-row l = SoFar l.file l.rows.table.grid l.rows.table.words.now l.rows.used l.row l.best
