use Rattle.std.proofs.Common.{rules}
use Rattle.xml_export.proofs.Answering.{fits, answer_61, answer-bad, answer_21, answer-written}
use Rattle.xml_export.proofs.answer.Goals as goal

pub returns-then-not-list : goal.returns-then-not-list
returns-then-not-list c =
    let a' = c.args in
    answer_61 a'.file.now a'.words.now a'.out.now a'.rows (search rules)
    (rw (c.by_rows.ensures.1, c.by_rows.ensures.0) at c.word-first.ensures) (rw c.at.ensures at c.refuse.ensures)

pub returns-then-out-size : goal.returns-then-out-size
returns-then-out-size c =
    let a' = c.args in
    answer_21 a'.file.now a'.words.now a'.out.now a'.rows (search rules) c.in-Ok.ensures c.if-out-size.true (rw c.at-then-out-size.ensures at c.refuse-then-out-size.ensures)

pub write-requires : goal.write-requires
write-requires c =
    let a' = c.args in
    fits a'.file.now a'.words.now a'.rows _ c.in-Ok.ensures c.if-out-size.false

pub returns-in-Err : goal.returns-in-Err
returns-in-Err c =
    let a' = c.args in
    answer-bad a'.file.now a'.words.now a'.out.now a'.rows (search rules) c.in-Err.ensures c.refuse-in-Err.ensures

pub returns-else-out-size : goal.returns-else-out-size
returns-else-out-size c =
    let a' = c.args in
    answer-written a'.file.now a'.words.now a'.out.now a'.rows (search rules) c.in-Ok.ensures c.if-out-size.false c.write.ensures
