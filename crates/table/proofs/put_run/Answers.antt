use Rattle.std.proofs.Common.{refl, arith}
use Rattle.table.specs.Runs.{has_rows_lem, no_rows, no_words}
use Rattle.table.proofs.put_run.Goals as goal

named : {A B : Type 0} → A × B → record { value : A; words_after : B }
named p = record { value = p.0; words_after = p.1 }

pub returns-then-grid-used : goal.returns-then-grid-used
returns-then-grid-used c = record { value = no_rows _ _ _ _ (omega (arith, c.if-grid-used.true)); words_after = refl }

pub returns-then-grid-used-2 : goal.returns-then-grid-used-2
returns-then-grid-used-2 c = record { value = no_rows _ _ _ _ (omega (arith, c.if-grid-used-2.true, c.if-grid-used.false)); words_after = refl }

pub returns-then-words-all : goal.returns-then-words-all
returns-then-words-all c =
    record { value = no_words _ _ _ _ (omega (arith, c.if-grid-used-2.false, c.if-grid-used.false)) (omega (arith, c.if-words-all.true)); words_after = refl }

pub returns-then-grid : goal.returns-then-grid
returns-then-grid c =
    record { value = has_rows_lem _ _ _ _ (omega (arith, c.if-grid-used-2.false, c.if-grid-used.false)) (omega (arith, c.if-words-all.false)); words_after = c.store_run.ensures }

pub returns : goal.returns
returns c =
    named (rw c.if-grid.false (has_rows_lem _ _ _ _ (omega (arith, c.if-grid-used-2.false, c.if-grid-used.false)) (omega (arith, c.if-words-all.false)), c.store_run-2.ensures))
