use native.Mathlib.Omega.{arith}
use Rattle.lookups.proofs.Laws.{no_row, empty, past, there}
use Rattle.lookups.proofs.part.Goals as goal

pub returns-then-table-row : goal.returns-then-table-row
returns-then-table-row c =
    let a = c.args in
    rw c.at.ensures (no_row a.table.grid a.file.now a.table.words.now a.row.0 c.if-table-row.true)

pub returns-then-length-eq0 : goal.returns-then-length-eq0
returns-then-length-eq0 c =
    let a = c.args in
    rw c.at-then-length-eq0.ensures (empty a.table.grid a.file.now a.table.words.now a.row.0 c.if-table-row.false c.word-first.ensures c.word-length.ensures c.if-length-eq0.true)

pub returns-then-file-end : goal.returns-then-file-end
returns-then-file-end c =
    let a = c.args in
    rw c.at-then-file-end.ensures
    (past a.table.grid a.file.now a.table.words.now a.row.0 c.if-table-row.false c.word-first.ensures c.word-length.ensures (omega (arith, c.if-length-eq0.false)) c.if-file-end.true)

pub returns : goal.returns
returns c =
    let a = c.args in
    there a.table.grid a.file.now a.table.words.now a.row.0 c.if-table-row.false c.word-first.ensures c.word-length.ensures (omega (arith, c.if-length-eq0.false)) c.if-file-end.false
