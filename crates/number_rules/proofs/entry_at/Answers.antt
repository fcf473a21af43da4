use Rattle.std.proofs.Common.{sym, ap, ◌∙◌, arith}
use Rattle.answers.specs.Told.{told}
use Rattle.reading.specs.Reads.{small_by_index}
use Rattle.reading.specs.Seven.{seven_next}
use Rattle.number_rules.specs.Entries.{entry-none, entry_read}
use Rattle.number_rules.proofs.entry_at.Goals as goal

pub returns-then-file-gt16777216 : goal.returns-then-file-gt16777216
returns-then-file-gt16777216 c = λ h l. absurd (omega arith)

pub returns-then-at-gt1099511627776 : goal.returns-then-at-gt1099511627776
returns-then-at-gt1099511627776 c = λ h l. absurd (omega arith)

pub overflow_add-result-in-Ok : goal.overflow_add-result-in-Ok
overflow_add-result-in-Ok c =
    let args = c.args in
    let s = args.file.now in
    let b = seven_next s (small_by_index s (λ i h. omega (arith, c.type_inv.file i))) args.at (sym c.seven_at.ensures ∙ ap told c.in-Ok.is) in omega (arith, b.1, b.2)

pub overflow_add-result-in-Ok-2 : goal.overflow_add-result-in-Ok-2
overflow_add-result-in-Ok-2 c =
    let args = c.args in
    let s = args.file.now in
    let b = seven_next s (small_by_index s (λ i h. omega (arith, c.type_inv.file i))) args.at (sym c.seven_at.ensures ∙ ap told c.in-Ok.is) in omega (arith, b.1, b.2)

pub returns-in-Err : goal.returns-in-Err
returns-in-Err c = let a = c.args in λ h l. entry-none a.file.now a.at (sym c.seven_at.ensures ∙ ap told c.in-Err.is)

pub returns-in-Ok : goal.returns-in-Ok
returns-in-Ok c =
    let a = c.args in
    λ h l. entry_read a.file.now a.at (small_by_index a.file.now (λ i h. omega (arith, c.type_inv.file i))) h (sym c.seven_at.ensures ∙ ap told c.in-Ok.is)
