use Rattle.driver.specs.Rules.{no_padding}
use Rattle.driver.proofs.numbers.Goals as goal

pub returns-then-loaded-eq0 : goal.returns-then-loaded-eq0
returns-then-loaded-eq0 c =
    let a = c.args in no_padding a.file.now a.rows.table.grid a.rows.table.words.now a.rows.used a.loaded.readers a.loaded.padding c.if-loaded-eq0.true

pub returns : goal.returns
returns c = λ h rows d e. c.padded_number.ensures h rows d
