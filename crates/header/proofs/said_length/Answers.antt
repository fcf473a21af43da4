-- `header::said_length` meets its contract. Assumes nothing.
use Rattle.laws.specs.Small.{differ}
use Rattle.header.proofs.Laws.{length-read}
use Rattle.header.proofs.said_length.Goals as goal

pub returns-in-Err : goal.returns-in-Err
returns-in-Err c =
    let q = length-read c.args.file.now c.requires in
    differ (cc (c.in-Err.ensures))

pub returns-in-Ok : goal.returns-in-Ok
returns-in-Ok c =
    let q = length-read c.args.file.now c.requires in
    cc (c.in-Ok.ensures)
