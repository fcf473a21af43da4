use Rattle.std.proofs.Common.{◌≡◌, ◌-◌}
use Rattle.fonts.specs.FontWords.{code_at, rising_rows}
use Rattle.fonts.proofs.rising.Given as goal

abbrev pub invariant-loop : goal.invariant-loop
invariant-loop l =
    (rising_rows l.table.grid l.file l.table.words.now (l.n - (l.counter - 1)) l.row.0 ≡ rising_rows l.table.grid l.file l.table.words.now l.n l.initial.row.0)
    × (l.before ≡ code_at l.table.grid l.file l.table.words.now l.row.0)
