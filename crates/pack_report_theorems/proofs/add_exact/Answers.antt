use lib.ListN.{length}
use Rattle.pack_report_theorems.proofs.Laws.{carry}
use Rattle.pack_report_theorems.proofs.add_exact.Goals as goal

pub returns : goal.returns
returns c =
    let a = c.args in
    record { carries = carry a.enums.now (length a.words.now) (length a.table.now) a.pack.now a.report.now c.add.ensures.value c.add.ensures.report_after; value = c.add.ensures.value }
