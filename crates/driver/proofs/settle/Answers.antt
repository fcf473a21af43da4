use Rattle.names.specs.Entries.{enums_of}
use Rattle.driver.specs.Settled.{settled-fine, settled-fault}
use Rattle.driver.proofs.settle.Goals as goal

pub returns-in-Ok : goal.returns-in-Ok
returns-in-Ok c =
    let a = c.args in
    settled-fine (enums_of a.enums.now) a.file.now a.words.now a.loaded (rw (c.by_rows.ensures.0, c.by_rows.ensures.1) at c.rules_kept.ensures) c.in-Ok.is

pub returns-in-Err : goal.returns-in-Err
returns-in-Err c =
    let a = c.args in
    settled-fault (enums_of a.enums.now) a.file.now a.words.now a.loaded (rw (c.by_rows.ensures.0, c.by_rows.ensures.1) at c.rules_kept.ensures) c.in-Err.is (c.fill.ensures.after (λ y h. h))
