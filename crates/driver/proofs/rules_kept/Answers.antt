use Rattle.std.proofs.Common.{Err}
use Rattle.std.proofs.lemmas.Result.{err_from_is_err_and}
use Rattle.names.specs.Entries.{enums_of}
use Rattle.driver.specs.Rules.{broken_41, kept_41, broken_42, kept_42, broken_43, kept_43, broken_44, kept_44, broken_45, kept_45, broken_46, kept_46, last_47}
use Rattle.driver.proofs.rules_kept.Goals as goal

pub returns-in_err-kept : goal.returns-in_err-kept
returns-in_err-kept c =
    let a = c.args in
    let p = err_from_is_err_and c.from_residual.result c.from_residual.ensures.1 in
    rw (p.1, p.2)
    (broken_41 (enums_of a.enums.now) a.file.now a.rows.table.grid a.rows.table.words.now a.rows.used a.loaded.readers a.loaded.padding c.platform.ensures c.kept.ensures c.in_err-kept.was)

pub returns-in_err-kept-2 : goal.returns-in_err-kept-2
returns-in_err-kept-2 c =
    let a = c.args in
    let p = err_from_is_err_and c.from_residual-in_err-kept-2.result c.from_residual-in_err-kept-2.ensures.1 in
    rw (p.1, p.2)
    (kept_41 (enums_of a.enums.now) a.file.now a.rows.table.grid a.rows.table.words.now a.rows.used a.loaded.readers a.loaded.padding c.platform.ensures c.kept.ensures c.in_ok-kept.was (Err c.in_err-kept-2.field-0.0)
    (broken_42 (enums_of a.enums.now) a.file.now a.rows.table.grid a.rows.table.words.now a.rows.used a.loaded.readers a.loaded.padding c.numbers.ensures c.kept-2.ensures c.in_err-kept-2.was))

pub returns-in_err-kept-3 : goal.returns-in_err-kept-3
returns-in_err-kept-3 c =
    let a = c.args in
    let p = err_from_is_err_and c.from_residual-in_err-kept-3.result c.from_residual-in_err-kept-3.ensures.1 in
    rw (p.1, p.2)
    (kept_41 (enums_of a.enums.now) a.file.now a.rows.table.grid a.rows.table.words.now a.rows.used a.loaded.readers a.loaded.padding c.platform.ensures c.kept.ensures c.in_ok-kept.was (Err c.in_err-kept-3.field-0.0)
    (kept_42 (enums_of a.enums.now) a.file.now a.rows.table.grid a.rows.table.words.now a.rows.used a.loaded.readers a.loaded.padding c.numbers.ensures c.kept-2.ensures c.in_ok-kept-2.was (Err c.in_err-kept-3.field-0.0)
    (broken_43 (enums_of a.enums.now) a.file.now a.rows.table.grid a.rows.table.words.now a.rows.used a.loaded.readers c.unused_reader.ensures c.kept-3.ensures c.in_err-kept-3.was)))

pub returns-in_err-kept-4 : goal.returns-in_err-kept-4
returns-in_err-kept-4 c =
    let a = c.args in
    let p = err_from_is_err_and c.from_residual-in_err-kept-4.result c.from_residual-in_err-kept-4.ensures.1 in
    rw (p.1, p.2)
    (kept_41 (enums_of a.enums.now) a.file.now a.rows.table.grid a.rows.table.words.now a.rows.used a.loaded.readers a.loaded.padding c.platform.ensures c.kept.ensures c.in_ok-kept.was (Err c.in_err-kept-4.field-0.0)
    (kept_42 (enums_of a.enums.now) a.file.now a.rows.table.grid a.rows.table.words.now a.rows.used a.loaded.readers a.loaded.padding c.numbers.ensures c.kept-2.ensures c.in_ok-kept-2.was (Err c.in_err-kept-4.field-0.0)
    (kept_43 (enums_of a.enums.now) a.file.now a.rows.table.grid a.rows.table.words.now a.rows.used a.loaded.readers c.unused_reader.ensures c.kept-3.ensures c.in_ok-kept-3.was (Err c.in_err-kept-4.field-0.0)
    (broken_44 (enums_of a.enums.now) a.file.now a.rows.table.grid a.rows.table.words.now a.rows.used c.doubled_reader.ensures c.kept-4.ensures c.in_err-kept-4.was))))

pub returns-in_err-kept-5 : goal.returns-in_err-kept-5
returns-in_err-kept-5 c =
    let a = c.args in
    let p = err_from_is_err_and c.from_residual-in_err-kept-5.result c.from_residual-in_err-kept-5.ensures.1 in
    rw (p.1, p.2)
    (kept_41 (enums_of a.enums.now) a.file.now a.rows.table.grid a.rows.table.words.now a.rows.used a.loaded.readers a.loaded.padding c.platform.ensures c.kept.ensures c.in_ok-kept.was (Err c.in_err-kept-5.field-0.0)
    (kept_42 (enums_of a.enums.now) a.file.now a.rows.table.grid a.rows.table.words.now a.rows.used a.loaded.readers a.loaded.padding c.numbers.ensures c.kept-2.ensures c.in_ok-kept-2.was (Err c.in_err-kept-5.field-0.0)
    (kept_43 (enums_of a.enums.now) a.file.now a.rows.table.grid a.rows.table.words.now a.rows.used a.loaded.readers c.unused_reader.ensures c.kept-3.ensures c.in_ok-kept-3.was (Err c.in_err-kept-5.field-0.0)
    (kept_44 (enums_of a.enums.now) a.file.now a.rows.table.grid a.rows.table.words.now a.rows.used c.doubled_reader.ensures c.kept-4.ensures c.in_ok-kept-4.was (Err c.in_err-kept-5.field-0.0)
    (broken_45 a.file.now a.rows.table.grid a.rows.table.words.now a.rows.used c.repeated_keys.ensures c.kept-5.ensures c.in_err-kept-5.was)))))

pub returns-in_err-kept-6 : goal.returns-in_err-kept-6
returns-in_err-kept-6 c =
    let a = c.args in
    let p = err_from_is_err_and c.from_residual-in_err-kept-6.result c.from_residual-in_err-kept-6.ensures.1 in
    rw (p.1, p.2)
    (kept_41 (enums_of a.enums.now) a.file.now a.rows.table.grid a.rows.table.words.now a.rows.used a.loaded.readers a.loaded.padding c.platform.ensures c.kept.ensures c.in_ok-kept.was (Err c.in_err-kept-6.field-0.0)
    (kept_42 (enums_of a.enums.now) a.file.now a.rows.table.grid a.rows.table.words.now a.rows.used a.loaded.readers a.loaded.padding c.numbers.ensures c.kept-2.ensures c.in_ok-kept-2.was (Err c.in_err-kept-6.field-0.0)
    (kept_43 (enums_of a.enums.now) a.file.now a.rows.table.grid a.rows.table.words.now a.rows.used a.loaded.readers c.unused_reader.ensures c.kept-3.ensures c.in_ok-kept-3.was (Err c.in_err-kept-6.field-0.0)
    (kept_44 (enums_of a.enums.now) a.file.now a.rows.table.grid a.rows.table.words.now a.rows.used c.doubled_reader.ensures c.kept-4.ensures c.in_ok-kept-4.was (Err c.in_err-kept-6.field-0.0)
    (kept_45 a.file.now a.rows.table.grid a.rows.table.words.now a.rows.used c.repeated_keys.ensures c.kept-5.ensures c.in_ok-kept-5.was (Err c.in_err-kept-6.field-0.0)
    (broken_46 a.rows.table.grid a.rows.table.words.now a.rows.used c.no_page.ensures c.kept-6.ensures c.in_err-kept-6.was))))))

pub returns : goal.returns
returns c =
    let a = c.args in
    kept_41 (enums_of a.enums.now) a.file.now a.rows.table.grid a.rows.table.words.now a.rows.used a.loaded.readers a.loaded.padding c.platform.ensures c.kept.ensures c.in_ok-kept.was c.kept-7.result
    (kept_42 (enums_of a.enums.now) a.file.now a.rows.table.grid a.rows.table.words.now a.rows.used a.loaded.readers a.loaded.padding c.numbers.ensures c.kept-2.ensures c.in_ok-kept-2.was c.kept-7.result
    (kept_43 (enums_of a.enums.now) a.file.now a.rows.table.grid a.rows.table.words.now a.rows.used a.loaded.readers c.unused_reader.ensures c.kept-3.ensures c.in_ok-kept-3.was c.kept-7.result
    (kept_44 (enums_of a.enums.now) a.file.now a.rows.table.grid a.rows.table.words.now a.rows.used c.doubled_reader.ensures c.kept-4.ensures c.in_ok-kept-4.was c.kept-7.result
    (kept_45 a.file.now a.rows.table.grid a.rows.table.words.now a.rows.used c.repeated_keys.ensures c.kept-5.ensures c.in_ok-kept-5.was c.kept-7.result
    (kept_46 a.rows.table.grid a.rows.table.words.now a.rows.used c.no_page.ensures c.kept-6.ensures c.in_ok-kept-6.was c.kept-7.result
    (last_47 a.rows.table.grid a.rows.table.words.now a.rows.used c.nextless.ensures c.kept-7.ensures))))))
