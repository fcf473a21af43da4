use Rattle.std.proofs.Common.{sym, ap, ◌∙◌}
use Rattle.answers.specs.Told.{told}
use Rattle.names.specs.Entries.{enums_of}
use Rattle.target_rules.specs.Doubled.{few_readers, no_readers, many_readers}
use Rattle.target_rules.proofs.doubled_reader.Goals as goal

pub returns-then-count-le8 : goal.returns-then-count-le8
returns-then-count-le8 c =
    let a = c.args in
    few_readers (enums_of a.enums.now) a.file.now (sym c.reader_count.ensures ∙ ap told c.in-Ok.is) c.if-count-le8.true c.doubled_with-then-count-le8.ensures

pub returns-in-Err : goal.returns-in-Err
returns-in-Err c =
    let a = c.args in
    no_readers (enums_of a.enums.now) a.file.now (sym c.reader_count.ensures ∙ ap told c.in-Err.is) c.doubled_with.ensures

pub returns-else-count-le8 : goal.returns-else-count-le8
returns-else-count-le8 c =
    let a = c.args in
    many_readers (enums_of a.enums.now) a.file.now c.doubled_with-in-Ok.ensures
